-- Lines that end at allowed places: each the longest piece from its start that fits; if none fits the shortest, or by
-- the places of a cut, if a line may end anywhere.
use Rattle.std.specs.Prelude.{◌≡◌, ◌⊎◌, ℕ, ◌<◌, ◌≤◌, ◌&&◌, ◌||◌, Bool, true, false, ℤ, ◌+ℤ◌, ◌≤ℤ◌, ◌<ℤ◌, List, [], ◌∷◌, length}
use Rattle.shape_items.specs.Buffer.{Buffer}
use Rattle.shape_lines.specs.Spots.{spots_of, spot_at, pen, reach}
use Rattle.shape_lines.specs.Walked.{line_of}
use Rattle.shape_lines.specs.declared.allowed.LineAt.{LineAt}
use Rattle.shape_lines.specs.declared.spots.Spot.{Spot}

-- a line may end before this: at an allowed or mandatory place, or `anywhere` at a safe one
abbrev pub ends_before : Bool → Spot → Bool
ends_before anywhere spot = spot.mandatory || (spot.allowed || (anywhere && spot.safe))

-- a line that begins at a place may end there: after it, with no mandatory place between the two
pub record MayEndBy (anywhere : Bool) (spots : List Spot) (start end : ℕ) : Type 0 where
  pub after : start < end
  pub within : end ≤ length spots
  pub is : ends_before anywhere (spot_at spots end) ≡ true
  pub none_between : (k : ℕ) → start < k → k < end → (spot_at spots k).mandatory ≡ false

-- from where the pen stands at the start of a line to its last glyph that isn't a space, it is at most this wide
abbrev pub FitsTo : List Spot → ℤ → ℕ → ℕ → Type 0
FitsTo spots width start end = reach spots end ≤ℤ (pen spots start +ℤ width)

abbrev pub IsTooWideTo : List Spot → ℤ → ℕ → ℕ → Type 0
IsTooWideTo spots width start end = (pen spots start +ℤ width) <ℤ reach spots end

abbrev pub NoneFitsBy : Bool → List Spot → ℤ → ℕ → Type 0
NoneFitsBy anywhere spots width start = (end : ℕ) → MayEndBy anywhere spots start end → IsTooWideTo spots width start end

-- the longest piece from its start that fits
pub record IsLongestBy (anywhere : Bool) (spots : List Spot) (width : ℤ) (start end : ℕ) : Type 0 where
  pub may_end : MayEndBy anywhere spots start end
  pub fits : FitsTo spots width start end
  pub none_longer : (later : ℕ) → end < later → MayEndBy anywhere spots start later → IsTooWideTo spots width start later

-- if none fits, the shortest one
pub record IsShortestBy (anywhere : Bool) (spots : List Spot) (width : ℤ) (start end : ℕ) : Type 0 where
  pub may_end : MayEndBy anywhere spots start end
  pub none_fits : NoneFitsBy anywhere spots width start
  pub none_shorter : (earlier : ℕ) → earlier < end → MayEndBy anywhere spots start earlier → ⊥

-- the end of a line: the longest to an allowed place that fits; if none fits, the longest that fits or the shortest, where
-- a place of a cut counts, too, if a line may end `anywhere`
abbrev pub IsEndAt : Bool → List Spot → ℤ → ℕ → ℕ → Type 0
IsEndAt anywhere spots width start end =
    IsLongestBy false spots width start end
    ⊎ (NoneFitsBy false spots width start × (IsLongestBy anywhere spots width start end ⊎ IsShortestBy anywhere spots width start end))

-- the line between two places, and whether its end is a place of a cut or the end of the text
abbrev pub line_at : Buffer → ℕ → List Spot → ℕ → ℕ → LineAt
line_at b text_end spots start end = record { line = line_of b text_end start end; ends_safely = (spot_at spots end).safe }

-- the lines from a place on, the last one up to the end of the text
abbrev pub AreLinesFrom : Buffer → ℕ → Bool → List Spot → ℤ → ℕ → List LineAt → Type 0
AreLinesFrom b text_end anywhere spots width start [] = start ≡ length spots
AreLinesFrom b text_end anywhere spots width start (line ∷ lines) =
    (end : ℕ) × IsEndAt anywhere spots width start end × (line ≡ line_at b text_end spots start end)
    × AreLinesFrom b text_end anywhere spots width end lines

-- Lines at allowed and mandatory places where spaces that stand last aren't measured, of a text that ends at `text_end`,
-- at most this wide as far as they can be
abbrev pub AreLinesAt : Buffer → ℕ → List ℕ → List ℕ → List ℕ → Bool → ℤ → List LineAt → Type 0
AreLinesAt b text_end allowed mandatory spaces anywhere width lines =
    AreLinesFrom b text_end anywhere (spots_of b allowed mandatory spaces) width 0 lines
