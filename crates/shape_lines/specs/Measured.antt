-- What the cutter at allowed places knows of a text.
use Rattle.std.specs.Prelude.{◌≡◌, ℕ, ◌+◌, ◌<◌, ◌≤◌, Bool, true, false, ℤ, pos, ◌≤ℤ◌, List, length, get_or}
use Rattle.shape_lines.specs.LinesAt.{ends_before}
use Rattle.shape_lines.specs.Spots.{spot_at, pen, reach}
use Rattle.shape_lines.specs.declared.measuring.Measures.{Measures}
use Rattle.shape_lines.specs.declared.spots.Spot.{Spot}

-- an end at a place or after it, with no mandatory place between
pub record IsAhead (anywhere : Bool) (spots : List Spot) (place end : ℕ) : Type 0 where
  pub from : place ≤ end
  pub within : end ≤ length spots
  pub is : ends_before anywhere (spot_at spots end) ≡ true
  pub none_between : (k : ℕ) → place ≤ k → k < end → (spot_at spots k).mandatory ≡ false

-- the least that the pen reaches at such an end
pub record IsLeastReach (anywhere : Bool) (spots : List Spot) (place : ℕ) (least : ℤ) : Type 0 where
  pub none_less : (end : ℕ) → IsAhead anywhere spots place end → least ≤ℤ reach spots end
  pub is_one : (end : ℕ) × IsAhead anywhere spots place end × (least ≡ reach spots end)

-- numbers for each place and the end, by a rule
pub record AreFor (spots : List Spot) (numbers : List ℤ) (Rule : ℕ → ℤ → Type 0) : Type 0 where
  pub as_many : length numbers ≡ length spots + 1
  pub each : (k : ℕ) → k ≤ length spots → Rule k (get_or numbers k (pos 0))

abbrev pub ArePens : List Spot → List ℤ → Type 0
ArePens spots numbers = AreFor spots numbers (λ k z. z ≡ pen spots k)

-- sums of fewer than 2 ^ 64 widths of 64 bits stay below 2 ^ 127, even with a width of 32 bits more
abbrev pub AreSmallPens : List Spot → Type 0
AreSmallPens spots = (k : ℕ) → k ≤ length spots → pen spots k ≤ℤ pos 170141183460469231722463931679029329920

abbrev pub AreReaches : List Spot → List ℤ → Type 0
AreReaches spots numbers = AreFor spots numbers (λ k z. z ≡ reach spots k)

abbrev pub AreLeast : Bool → List Spot → List ℤ → Type 0
AreLeast anywhere spots numbers = AreFor spots numbers (λ k z. IsLeastReach anywhere spots k z)

pub record AreMeasures (spots : List Spot) (m : Measures) : Type 0 where
  pub pens : ArePens spots m.pens.items
  pub small : AreSmallPens spots
  pub allowed : AreLeast false spots m.allowed.items
  pub any : AreLeast m.anywhere spots m.any.items
