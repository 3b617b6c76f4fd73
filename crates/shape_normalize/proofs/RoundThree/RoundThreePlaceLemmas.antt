-- The places of what round three emits.
use Rattle.std.proofs.Common.{◌≡◌, ℕ, suc, ◌+◌, ◌<◌, ◌≤◌, List, [], ◌∷◌, ◌++◌, length, Option, None, Some, refl, sym, subst, arith}
use Rattle.std.specs.Option.{option_map}
use Rattle.std.specs.List.{AllByRecursion}
use Rattle.shape_items.specs.Items.{Item}
use Rattle.canonical_form.specs.Recompose.{is_blocked, compose_with_glyph}
use Rattle.canonical_form.proofs.Lists.EveryLemmas.{append_all}
use Rattle.canonical_form.proofs.Recomposing.RecomposeLemmas.{by_steps}
use Rattle.shape_normalize.specs.RoundThree.{Absorbed, Placed, placed, ccc_of_placed, is_mark_placed, compose_placed, recomposed_items}
use Rattle.shape_plan.specs.Rules.{Rules, has_glyph}
use Rattle.shape_normalize.proofs.RoundThree.RoundThreeWalkLemmas.{after, item_at, made_with}

-- ---- the places

-- the places rise, from `low` on, and are below `high`
abbrev pub AreRising : ℕ → ℕ → List Placed → Type 0
AreRising low high [] = low ≤ high
AreRising low high (p ∷ ps) = (low ≤ p.place) × AreRising (p.place + 1) high ps

-- marks stood one after the other, from after this place on, and before place `high`
abbrev pub AreAbsorbedInOrder : ℕ → ℕ → List Absorbed → Type 0
AreAbsorbedInOrder low high [] = Unit {0}
AreAbsorbedInOrder low high (mark ∷ absorbed) = (low < mark.place) × (mark.place < high) × AreAbsorbedInOrder mark.place high absorbed

-- the marks that were composed with an item stood after it
abbrev pub InOrder : ℕ → Placed → Type 0
InOrder high p = AreAbsorbedInOrder p.place high p.absorbed

pub in_order-higher : (low high higher : ℕ) (absorbed : List Absorbed) → high ≤ higher → AreAbsorbedInOrder low high absorbed
    → AreAbsorbedInOrder low higher absorbed
in_order-higher low high higher [] le h = tt
in_order-higher low high higher (mark ∷ absorbed) le h =
    (h.0, omega (arith, h.1), in_order-higher mark.place high higher absorbed le h.2)

pub in_order-push : (low k : ℕ) (absorbed : List Absorbed) (mark : Absorbed) → low < k → mark.place ≡ k → AreAbsorbedInOrder low k absorbed
    → AreAbsorbedInOrder low (suc k) (absorbed ++ mark ∷ [])
in_order-push low k [] mark lt is h = (omega arith, omega arith, tt)
in_order-push low k (m ∷ absorbed) mark lt is h = (h.0, omega (arith, h.1), in_order-push m.place k absorbed mark h.1 is h.2)

AreRising-append : (low middle high : ℕ) (xs ys : List Placed) → AreRising low middle xs → AreRising middle high ys
    → AreRising low high (xs ++ ys)
AreRising-append low middle high [] [] up up' = omega arith
AreRising-append low middle high [] (y ∷ ys) up up' = (omega (arith, up'.0), up'.1)
AreRising-append low middle high (x ∷ xs) ys up up' = (up.0, AreRising-append (x.place + 1) middle high xs ys up.1 up')

AreRising-higher : (low high higher : ℕ) (xs : List Placed) → high ≤ higher → AreRising low high xs → AreRising low higher xs
AreRising-higher low high higher [] le up = omega arith
AreRising-higher low high higher (x ∷ xs) le up = (up.0, AreRising-higher (x.place + 1) high higher xs le up.1)

pub AreRising-fit : (low high : ℕ) (xs : List Placed) → AreRising low high xs → low + length xs ≤ high
AreRising-fit low high [] up = omega arith
AreRising-fit low high (x ∷ xs) up = omega (arith, up.0, AreRising-fit (x.place + 1) high xs up.1)

-- what was emitted of the places from `low` on and below `high`
pub record ArePlaced (low high : ℕ) (xs : List Placed) : Type 0 where
  pub rising : AreRising low high xs
  pub in_order : AllByRecursion (InOrder high) xs

each_higher : (high higher : ℕ) (xs : List Placed) → high ≤ higher → AllByRecursion (InOrder high) xs
    → AllByRecursion (InOrder higher) xs
each_higher high higher [] le each = tt
each_higher high higher (p ∷ xs) le each =
    (in_order-higher p.place high higher p.absorbed le each.0, each_higher high higher xs le each.1)

ArePlaced-append : (low k high : ℕ) (xs ys : List Placed) → ArePlaced low k xs → ArePlaced k high ys
    → ArePlaced low high (xs ++ ys)
ArePlaced-append low k high xs ys front back =
    let fit = AreRising-fit k high ys back.rising in
    record {
      rising = AreRising-append low k high xs ys front.rising back.rising;
      in_order = append_all (InOrder high) xs ys (each_higher k high xs (omega arith) front.in_order) back.in_order;
    }

-- items from this place on to the end of a list of length n, with nothing composed yet
abbrev pub AreFrom : ℕ → ℕ → List Placed → Type 0
AreFrom n k [] = k ≡ n
AreFrom n k (p ∷ ps) = (p.place ≡ k) × (p.absorbed ≡ []) × AreFrom n (suc k) ps

pub AreFrom-placed : (n k : ℕ) (items : List Item) → k + length items ≡ n → AreFrom n k (placed k items)
AreFrom-placed n k [] is = omega arith
AreFrom-placed n k (x ∷ items) is = (refl, refl, AreFrom-placed n (suc k) items (omega arith))

ArePlaced-once : (k : ℕ) (p : Placed) → p.place ≡ k → p.absorbed ≡ [] → ArePlaced k (suc k) (p ∷ [])
ArePlaced-once k p here none = record {
  rising = (omega arith, omega arith);
  in_order = (subst (AreAbsorbedInOrder p.place (suc k)) (sym none) tt, tt);
}

option_map-some : {A B : Type 0} (f : A → B) (o : Option A) (d : B) → option_map f o ≡ Some d → (c : A) × (o ≡ Some c) × (d ≡ f c)
option_map-some f None d h = cc
option_map-some f (Some c) d h = (c, refl, cc)

module _ (rules : Rules) where
  -- a starter that absorbs a mark takes the character that the two make, and keeps its place
  pub absorbed_is : (s mark d : Placed) → compose_placed rules s mark ≡ Some d
      → (c : ℕ) × (compose_with_glyph rules.compose (has_glyph rules.face.nominal_glyph) s.item.codepoint mark.item.codepoint ≡ Some c)
      × (d ≡ made_with rules s mark c)
  absorbed_is s mark d composes =
      let found = compose_with_glyph rules.compose (has_glyph rules.face.nominal_glyph) s.item.codepoint mark.item.codepoint in
      option_map-some (made_with rules s mark) found d composes

  placed_absorbed : (low k : ℕ) (s : Placed) (ms : List Placed) (mark d : Placed) → ArePlaced low k (s ∷ ms) → mark.place ≡ k
      → compose_placed rules s mark ≡ Some d → ArePlaced low (suc k) (d ∷ ms)
  placed_absorbed low k s ms mark d h here composes =
      let made = absorbed_is s mark d composes in
      let fit = AreRising-fit (s.place + 1) k ms h.rising.1 in
      subst (λ p. ArePlaced low (suc k) (p ∷ ms)) (sym made.2) (record {
        rising = (h.rising.0, AreRising-higher (s.place + 1) k (suc k) ms (omega arith) h.rising.1);
        in_order = (
          in_order-push s.place k s.absorbed (record { place = mark.place; char = made.0 }) (omega arith) here h.in_order.0,
          each_higher k (suc k) ms (omega arith) h.in_order.1,
        );
      })

  after_placed : (n : ℕ) (s : Placed) (ms rest : List Placed) → (low k : ℕ) → ArePlaced low k (s ∷ ms) → AreFrom n k rest
      → ArePlaced low n (after rules s ms rest)
  after_placed n =
      by_steps ccc_of_placed (is_blocked ccc_of_placed) is_mark_placed (compose_placed rules)
      (λ s ms rest out. (low k : ℕ) → ArePlaced low k (s ∷ ms) → AreFrom n k rest → ArePlaced low n out) (record {
        ends = λ s ms low k h from. subst (λ m. ArePlaced low m (s ∷ ms)) from h;
        composes = λ s ms c d rest out found free made later low k h from.
            later low (suc k) (placed_absorbed low k s ms c d h from.0 made) from.2;
        starts = λ s ms c rest out none start later low k h from.
            ArePlaced-append low k n (s ∷ ms) out h (later k (suc k) (ArePlaced-once k c from.0 from.1) from.2);
        passes = λ s ms c rest out none mark later low k h from.
            later low (suc k) (ArePlaced-append low k (suc k) (s ∷ ms) (c ∷ []) h (ArePlaced-once k c from.0 from.1)) from.2;
      })

  -- what is emitted has rising places of the list, and so have the marks that were composed
  pub recomposed_placed : (items : List Item) → ArePlaced 0 (length items) (recomposed_items rules items)
  recomposed_placed [] = record { rising = omega arith; in_order = tt }
  recomposed_placed (x ∷ items) =
      after_placed (suc (length items)) (item_at rules 0 x) [] (placed 1 items) 0 1
      (ArePlaced-once 0 (item_at rules 0 x) refl refl) (AreFrom-placed (suc (length items)) 1 items (omega arith))

  -- no more items are emitted than there were
  pub length-recomposed : (items : List Item) → length (recomposed_items rules items) ≤ length items
  length-recomposed items =
      omega (arith, AreRising-fit 0 (length items) (recomposed_items rules items) (recomposed_placed items).rising)
