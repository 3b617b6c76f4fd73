-- The worked cases of where items came from.
use Rattle.std.proofs.Common.{◌≡◌, ℕ, zero, suc, ◌+◌, ◌<◌, ◌≤◌, true, false, List, [], ◌∷◌, ◌++◌, replicate, length, get_or, refl, sym, ap, subst, ◌∙◌, arith, inl, inr}
use Rattle.std.specs.List.{AllZip, Contains}
use Rattle.std.proofs.lemmas.List.Elements.{All-from_recursion}
use Rattle.std.proofs.lemmas.Bool.{cases_lt}
use Rattle.std.proofs.lemmas.List.FromFn.{get_or-range_with_len}
use Rattle.std.proofs.lemmas.List.Sorted.{IsPermutation-refl, length_permutation}
use Rattle.canonical_form.specs.Order.{IsSwap, Swaps}
use Rattle.canonical_form.proofs.Ordering.OrderLemmas.{in_order_from_reached}
use Rattle.shape_items.specs.Clusters.{merge}
use Rattle.shape_items.specs.Items.{Item, new_item, ccc_of_item}
use Rattle.shape_normalize.specs.Normalized.{features_of}
use Rattle.shape_normalize.specs.Origins.{item_at, HasOfOrigin, all_places, AreInOneRun, PermutesRuns, IsOrderOf, new_origins, ComesByPlace}
use Rattle.shape_normalize.specs.RoundOne.{round_one}
use Rattle.shape_normalize.specs.RoundTwo.{run_settled, has_seen_cgj}
use Rattle.shape_normalize.specs.Worked.Fixture.{rules_in, item}
use Rattle.shape_normalize.specs.Worked.Origins.{letters, PlacesWorked, NewPlacesWorked, WholeWorked, OfOriginWorked, runs_of_marks, with_marks, OrderWorked, FromPlaceWorked, FromStarterWorked, OriginsWorked}

places_worked : PlacesWorked
unfolding merge
places_worked = record {
  parts = refl;
  whole = refl;
  in_sequence = refl;
  variation_sequence = refl;
  no_variation_sequence = refl;
  second_selector = refl;
  mark_before_selector = refl;
  after_variation_sequence = refl;
  before_variation_sequence = refl;
  lone_selector = refl;
  shortest = refl;
}

new_places_worked : NewPlacesWorked
unfolding merge run_settled
new_places_worked = record { composed = refl; left = refl; expanded_composed = refl; unmarked = refl }

of_origin_worked : OfOriginWorked
of_origin_worked = record {
  part = record { features = refl; glyph = λ outside. refl; hidden = inr (inl refl) };
  kept = record { features = refl; glyph = λ outside. refl; hidden = inl refl };
  other_features = λ h. let no : 512 ≡ 256 = h.features in omega (arith, no);
  other_glyph = λ h. let no : 7 ≡ 0x61 = h.glyph refl in omega (arith, no);
  variant_glyph = record { features = refl; glyph = λ inside. absurd (cc); hidden = inr (inl refl) };
  other_hidden = λ h. elim h.hidden [
    | inl same ↦ let no : 0x61 ≡ 0xE1 = ap (λ k. k.0) same in omega (arith, no)
    | inr (inl own) ↦ cc
    | inr (inr cgj) ↦ let no : 0x61 ≡ 0x34F = cgj.1 in omega (arith, no)
  ];
  neighbour_hidden = λ h. elim h.hidden [
    | inl same ↦ let no : 0x61 ≡ 0x62 = ap (λ k. k.0) same in omega (arith, no)
    | inr (inl own) ↦ cc
    | inr (inr cgj) ↦ let no : 0x61 ≡ 0x34F = cgj.1 in omega (arith, no)
  ];
  once_unhidden = record { features = refl; glyph = λ outside. refl; hidden = inr (inr (refl, refl)) };
  none_unhidden = λ h. elim h.hidden [
    | inl same ↦ let no : 0x34F ≡ 0x62 = ap (λ k. k.0) same in omega (arith, no)
    | inr (inl own) ↦ let no : false ≡ true = own in cc
    | inr (inr cgj) ↦ let no : false ≡ true = cgj.0 in cc
  ];
  other_unhidden = λ h. elim h.hidden [
    | inl same ↦ let no : 0x61 ≡ 0x62 = ap (λ k. k.0) same in omega (arith, no)
    | inr (inl own) ↦ cc
    | inr (inr cgj) ↦ let no : 0x61 ≡ 0x34F = cgj.1 in omega (arith, no)
  ];
}

-- the three marks of the first run
first_marks : (k : ℕ) → 1 ≤ k → k < 4 → 0 < ccc_of_item (item_at runs_of_marks k)
first_marks zero low high = absurd (omega arith)
first_marks (suc zero) low high = omega arith
first_marks (suc (suc zero)) low high = omega arith
first_marks (suc (suc (suc zero))) low high = omega arith
first_marks (suc (suc (suc (suc k)))) low high = absurd (omega arith)

-- what stands before a run that begins at place 1 is the first item
before_first : (items : List Item) → ccc_of_item (item_at items 0) ≡ 0 → (k : ℕ) → suc k ≡ 1 → ccc_of_item (item_at items k) ≡ 0
before_first items none k is = let first : k ≡ 0 = omega (arith, is) in ap (λ n. ccc_of_item (item_at items n)) first ∙ none

in_first_run : (p q : ℕ) → 1 ≤ p → p < 4 → 1 ≤ q → q < 4 → AreInOneRun runs_of_marks p q
in_first_run p q low high low' high' = inr (record {
  start = 1;
  end = 4;
  run = record { short = omega arith; marks = first_marks; before = before_first runs_of_marks refl; behind = refl };
  first = (low, high);
  second = (low', high');
})

-- places with an item of ccc 0 between them, or at one of them, are in no run
module _ (items : List Item) (k : ℕ) (starter : ccc_of_item (item_at items k) ≡ 0) where
  parted : (p q : ℕ) → p < q → p ≤ k → k ≤ q → AreInOneRun items p q → ⊥
  parted p q ordered from to (inl same) = omega (arith, same, ordered)
  parted p q ordered from to (inr shared) =
      let mark = shared.run.marks k (let low = shared.first.0 in omega arith) (let high = shared.second.1 in omega arith) in
      omega (arith, mark, starter)

starter_apart : AreInOneRun runs_of_marks 0 1 → ⊥
starter_apart = parted runs_of_marks 0 refl 0 1 (omega arith) (omega arith) (omega arith)

runs_apart : AreInOneRun runs_of_marks 3 5 → ⊥
runs_apart = parted runs_of_marks 4 refl 3 5 (omega arith) (omega arith) (omega arith)

reversed_runs : (i d : ℕ) → i < 6 → AreInOneRun runs_of_marks i (get_or (0 ∷ 3 ∷ 2 ∷ 1 ∷ 4 ∷ 5 ∷ []) i d)
reversed_runs zero d lt = inl refl
reversed_runs (suc zero) d lt = in_first_run 1 3 (omega arith) (omega arith) (omega arith) (omega arith)
reversed_runs (suc (suc zero)) d lt = inl refl
reversed_runs (suc (suc (suc zero))) d lt = in_first_run 3 1 (omega arith) (omega arith) (omega arith) (omega arith)
reversed_runs (suc (suc (suc (suc zero)))) d lt = inl refl
reversed_runs (suc (suc (suc (suc (suc zero))))) d lt = inl refl
reversed_runs (suc (suc (suc (suc (suc (suc i)))))) d lt = absurd (omega arith)

-- so many marks after the first item
mark_of : (n k : ℕ) → k < n → 0 < ccc_of_item (get_or (replicate n (item 0x301 1)) k (new_item 0 0))
mark_of zero k lt = absurd (omega arith)
mark_of (suc n) zero lt = omega arith
mark_of (suc n) (suc k) lt = mark_of n k (omega arith)

mark_after_first : (n k : ℕ) → 1 ≤ k → k ≤ n → 0 < ccc_of_item (item_at (with_marks n) k)
mark_after_first n zero low high = absurd (omega arith)
mark_after_first n (suc k) low high = mark_of n k (omega arith)

run_of_32 : AreInOneRun (with_marks 32) 1 32
run_of_32 = inr (record {
  start = 1;
  end = 33;
  run = record {
    short = omega arith;
    marks = λ k from to. mark_after_first 32 k from (omega arith);
    before = before_first (with_marks 32) refl;
    behind = refl;
  };
  first = (omega arith, omega arith);
  second = (omega arith, omega arith);
})

-- a part of 32 marks has a mark beside it
run_of_33 : AreInOneRun (with_marks 33) 1 2 → ⊥
run_of_33 (inl same) = omega (arith, same)
run_of_33 (inr shared) =
    let low = shared.first.0 in
    let high = shared.second.1 in
    let few = shared.run.short in
    elim (cases_lt shared.start 1) [
      | inl first ↦ let no : 0 < 0 = shared.run.marks 0 (omega arith) (omega arith) in omega (arith, no)
      | inr behind ↦
          let mark = mark_after_first 33 shared.end (omega arith) (omega arith) in
          let none = shared.run.behind in
          omega (arith, mark, none)
    ]

-- the places of a list as they stand are an order in which nothing moves
in_place : (items : List Item) → PermutesRuns items (all_places items)
in_place items = record {
  all = IsPermutation-refl (all_places items);
  runs = λ i d lt. let at : get_or (all_places items) i d ≡ 0 + i = get_or-range_with_len 0 (length items) i d lt in inl (omega arith);
}

-- settled, the first run begins with U+0323
as_they_stood : IsOrderOf (rules_in 1 []) runs_of_marks (0 ∷ 1 ∷ 2 ∷ 3 ∷ 4 ∷ 5 ∷ []) → ⊥
as_they_stood h =
    let ccc : ℕ → ℕ = λ place. ccc_of_item (item_at runs_of_marks place) in
    let none : h.0 ≡ [] = in_order_from_reached ccc [] h.0 h.2.reached h.2.ordered in
    let run : h.3.0 ≡ 2 ∷ 1 ∷ 3 ∷ [] = in_order_from_reached ccc (1 ∷ 2 ∷ 3 ∷ []) h.3.0 h.3.2.reached h.3.2.ordered in
    let all : (0 ∷ 1 ∷ 2 ∷ 3 ∷ 4 ∷ 5 ∷ []) ≡ 0 ∷ h.1 = h.4 ∙ ap (λ l. l ++ 0 ∷ h.1) none in
    let later : h.1 ≡ 2 ∷ 1 ∷ 3 ∷ 4 ∷ h.3.1 = h.3.4 ∙ ap (λ l. l ++ 4 ∷ h.3.1) run in
    let no : get_or (0 ∷ h.1) 1 7 ≡ 1 = ap (λ l. get_or l 1 7) (sym all) in
    let yes : get_or (0 ∷ h.1) 1 7 ≡ 2 = ap (λ l. get_or l 0 7) later in
    omega (arith, no, yes)

order_worked : OrderWorked
order_worked = record {
  same_place = inl refl;
  in_run = in_first_run 3 1 (omega arith) (omega arith) (omega arith) (omega arith);
  not_with_starter = λ h. elim h [
    | inl same ↦ omega (arith, same)
    | inr shared ↦
        let low = shared.second.0 in
        let high = shared.first.1 in
        let no : 0 < 0 = shared.run.marks 0 (omega arith) (omega arith) in
        omega (arith, no)
  ];
  not_past_starter = runs_apart;
  reversed = record { all = record { moves = (1, 3) ∷ []; below = (omega arith, omega arith, tt); is = refl }; runs = reversed_runs };
  starter_moved = λ h. starter_apart (h.runs 0 0 (omega arith));
  other_run = λ h. runs_apart (h.runs 3 0 (omega arith));
  left_out = λ h. let no : 5 ≡ 6 = length_permutation (0 ∷ 1 ∷ 2 ∷ 3 ∷ 4 ∷ 5 ∷ []) (0 ∷ 1 ∷ 2 ∷ 4 ∷ 5 ∷ []) h.all in omega (arith, no);
  in_run_of_32 = run_of_32;
  not_in_run_of_33 = run_of_33;
  long_run_stays = in_place (with_marks 33);
  long_run_moved = λ h. run_of_33 (h.runs 1 0 (omega arith));
  by_ccc = (
    [],
    2 ∷ 1 ∷ 3 ∷ 4 ∷ 5 ∷ [],
    record { reached = Swaps.done; ordered = tt },
    (
      2 ∷ 1 ∷ 3 ∷ [],
      5 ∷ [],
      record {
        reached = Swaps.then (IsSwap.here 1 2 (3 ∷ []) (omega arith) (omega arith) (λ e. omega (arith, e))) Swaps.done;
        ordered =
            (λ mark. omega arith, (λ mark. omega arith, tt));
      },
      record { reached = Swaps.done; ordered = tt },
      refl,
    ),
    refl,
  );
  not_by_ccc = λ h. as_they_stood h;
}

from_place_worked : FromPlaceWorked
from_place_worked = record {
  stays = inl refl;
  seen = inr (refl, refl, refl);
  unseen = λ h. elim h [
    | inl same ↦ let no : false ≡ true = ap (λ (one : Item). one.properties.hidden) same in cc
    | inr unhides ↦
        let no : false ≡ true = unhides.0 in cc
  ];
  other_place = λ h. elim h [
    | inl same ↦ let no : 0x34F ≡ 0x61 = ap (λ (one : Item). one.codepoint) same in
        omega (arith, no)
    | inr unhides ↦ let no : 0x61 ≡ 0x34F = unhides.1 in omega (arith, no)
  ];
  other_features = λ h. elim h [
    | inl same ↦ let no : 512 ≡ 256 = ap (λ (one : Item). one.mask) same in omega (arith, no)
    | inr unhides ↦
        let no : 512 ≡ 256 = ap (λ (one : Item). one.mask) unhides.2 in omega (arith, no)
  ];
}

from_starter_worked : FromStarterWorked
from_starter_worked = record {
  stays = refl;
  composed = (refl, refl, refl);
  features_of_mark = λ h. let no : 512 ≡ 256 = ap (λ (one : Item). one.mask) h.2 in omega (arith, no);
  not_composed = λ h. let no : 0xE1 ≡ 0x61 = ap (λ (one : Item). one.codepoint) h in omega (arith, no);
  other_glyph = λ h. let no : 0x61 ≡ 0xE1 = ap (λ (one : Item). one.glyph_index) h.2 in omega (arith, no);
  starter_itself = λ h. let no : 0x61 ≡ 0xE1 = h.0 in omega (arith, no);
}

changed : ComesByPlace (rules_in 1 (0x62 ∷ [])) (letters 256 512) (letters 512 256) → ⊥
changed h =
    let rules = rules_in 1 (0x62 ∷ []) in
    let text = letters 256 512 in
    let new = letters 512 256 in
    let in_place : h.places ≡ 0 ∷ 1 ∷ [] = h.unmarked refl in
    let each : AllZip (HasOfOrigin rules text (has_seen_cgj (round_one rules text))) (new_origins rules text (0 ∷ 1 ∷ [])) new.items =
    subst (λ places. AllZip (HasOfOrigin rules text (has_seen_cgj (round_one rules text))) (new_origins rules text places) new.items)
    in_place h.from_text in
    let no : 512 ≡ 256 = each.0.features in
    omega (arith, no)

whole_worked : WholeWorked
whole_worked = record {
  of_some_item =
      All-from_recursion (λ (item : Item). Contains (256 ∷ 512 ∷ []) (features_of item)) (letters 512 256).items
      ((1, omega arith, refl), ((0, omega arith, refl), tt));
  not_by_place = changed;
}

pub origins_worked : OriginsWorked
origins_worked = record {
  places = places_worked;
  new_places = new_places_worked;
  of_origin = of_origin_worked;
  order = order_worked;
  from_place =
      from_place_worked;
  from_starter = from_starter_worked;
  whole = whole_worked;
}
