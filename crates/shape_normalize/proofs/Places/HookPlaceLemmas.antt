-- Round two by places, if a reorder hook is given: each run of at most 32 marks of the expanded list is in another
-- order.
use Rattle.std.proofs.Common.{◌≡◌, ◌⊎◌, ℕ, zero, suc, ◌+◌, ◌-◌, ◌<◌, ◌≤◌, List, [], ◌∷◌, ◌++◌, map, take, drop, length, get_or, set, slice_range, Some, refl, sym, ap, ap₂, subst, ◌∙◌, arith, inl, inr}
use Rattle.std.specs.List.{All, swap}
use Rattle.std.specs.List.Sorted.{IsPermutation, SwapsInRange, apply_swaps}
use Rattle.std.proofs.Math.Seq.{take-append_seam}
use Rattle.std.proofs.lemmas.Bool.{cases_lt}
use Rattle.std.proofs.lemmas.List.{length-map, length-take, length-take-le, length-drop, map-append, map-set, take-map, drop-map, get_or-take, get_or-drop}
use Rattle.std.proofs.lemmas.List.Edits.{split_between}
use Rattle.std.proofs.lemmas.List.FromFn.{length-range_with_len, get_or-range_with_len}
use Rattle.std.proofs.lemmas.List.Sorted.{All-permutation, IsPermutation-refl, IsPermutation-trans, IsPermutation-swap, IsPermutation-cons, length_permutation}
use Rattle.canonical_form.specs.Order.{IsSwap, Swaps, in_order}
use Rattle.canonical_form.proofs.Ordering.OrderLemmas.{Swaps-in_order}
use Rattle.shape_items.specs.Buffer.{Buffer}
use Rattle.shape_items.specs.Items.{Item, ccc_of_item, new_item}
use Rattle.shape_items.proofs.Merging.KeyLemmas.{IsKey}
use Rattle.shape_normalize.specs.Origins.{item_at, all_places, IsShortRun, AreInOneRun, PermutesRuns}
use Rattle.shape_normalize.specs.Reordered.{without_ccc}
use Rattle.shape_normalize.specs.RoundTwo.{max_run, spans_merged, run_reordered, run_settled, marks_ordered}
use Rattle.shape_normalize.proofs.Places.PlaceLemmas.{by_places}
use Rattle.shape_normalize.proofs.Hooks.ReorderLemmas.{LawfulReorder, PermutesRange, PermutesRange-trans, PermutesRange-map, IsPermutation-range, Reorders-permutes, range_get}
use Rattle.shape_normalize.proofs.Hooks.ReorderedLemmas.{IsKey-without_ccc}
use Rattle.shape_normalize.proofs.RoundTwo.RunMarkLemmas.{AreMarks, written_part}
use Rattle.shape_normalize.proofs.RoundTwo.RunsLemmas.{IsRun}
use Rattle.shape_normalize.proofs.RoundTwo.SettleLemmas.{drop_after, run_placed, merged_length, length-run_placed, settled_cases, preserved_by_marks_ordered, Reorders-run_reordered, run_placed-in_order}
use Rattle.shape_normalize.proofs.RoundTwo.SpanLemmas.{keys-spans_merged, map-slice_range}

-- ---- permutations

-- the value of what stands at a place
value_at : {A B : Type 0} (f : A → B) (xs : List A) (i : ℕ) (d : A) → get_or (map f xs) i (f d) ≡ f (get_or xs i d)
value_at f [] i d = refl
value_at f (x ∷ xs) zero d = refl
value_at f (x ∷ xs) (suc i) d = value_at f xs i d

swap-map : {A B : Type 0} (f : A → B) (xs : List A) (i j : ℕ) → map f (swap xs i j) ≡ swap (map f xs) i j
swap-map f [] i j = refl
swap-map f (d ∷ xs) i j =
    let x = get_or (d ∷ xs) i d in
    let y = get_or (d ∷ xs) j d in
    map-set f (set (d ∷ xs) i y) j x ∙ ap (λ l. set l j (f x)) (map-set f (d ∷ xs) i y)
    ∙ sym (ap₂ (λ u v. set (set (map f (d ∷ xs)) i u) j v) (value_at f (d ∷ xs) j d) (value_at f (d ∷ xs) i d))

apply_swaps-map : {A B : Type 0} (f : A → B) (xs : List A) (moves : List (ℕ × ℕ))
    → map f (apply_swaps xs moves) ≡ apply_swaps (map f xs) moves
apply_swaps-map f xs [] = refl
apply_swaps-map f xs (move ∷ moves) =
    swap-map f (apply_swaps xs moves) move.0 move.1 ∙ ap (λ l. swap l move.0 move.1) (apply_swaps-map f xs moves)

permutes_swap : {A : Type 0} {ccc : A → ℕ} {xs ys : List A} → IsSwap ccc xs ys → IsPermutation xs ys
permutes_swap (IsSwap.here x y rest mark mark' apart) =
    IsPermutation-swap (x ∷ y ∷ rest) (y ∷ x ∷ rest) 0 1 (omega arith) (omega arith) refl
permutes_swap (IsSwap.behind x {xs} {ys} one) = IsPermutation-cons x xs ys (permutes_swap one)

permutes_swaps : {A : Type 0} {ccc : A → ℕ} {xs ys : List A} → Swaps ccc xs ys → IsPermutation xs ys
permutes_swaps (Swaps.done {xs}) = IsPermutation-refl xs
permutes_swaps (Swaps.then {xs} {ys} {zs} one more) = IsPermutation-trans xs ys zs (permutes_swap one) (permutes_swaps more)

module _ {A : Type 0} (xs ys : List A) (start end : ℕ) (ordered : start ≤ end) (within : end ≤ length xs) where
  -- a list of which one part is permuted
  permuted_part : IsPermutation (slice_range xs start end) ys → PermutesRange start end xs (take start xs ++ (ys ++ drop end xs))
  permuted_part moved =
      let front : length (take start xs) ≡ start = length-take-le start xs (omega arith) in
      let part : length (slice_range xs start end) ≡ end - start =
      length-take-le (end - start) (drop start xs) (rw (length-drop start xs) (omega arith)) in
      let as_many : length ys ≡ end - start = length_permutation (slice_range xs start end) ys moved ∙ part in
      record {
        before = ap (λ n. take n (take start xs ++ (ys ++ drop end xs))) (sym front)
            ∙ take-append_seam (take start xs) (ys ++ drop end xs);
        range = subst (IsPermutation (slice_range xs start end)) (sym (written_part xs ys start end ordered within as_many)) moved;
        behind = drop_after xs ys start end end ordered within as_many (omega arith);
      }

-- if values are permuted in a range, so are the things that they are values of
module _ {A B : Type 0} (f : A → B) (xs : List A) (values : List B) (start end : ℕ) (ordered : start ≤ end)
    (within : end ≤ length xs) where
  things_permuted : PermutesRange start end (map f xs) values → (new : List A) × PermutesRange start end xs new × (map f new ≡ values)
  things_permuted moved =
      let part = slice_range xs start end in
      let new = apply_swaps part moved.range.moves in
      let of_part = sym (map-slice_range f xs start end) in
      let below = subst (λ (l : List B). SwapsInRange (length l) moved.range.moves) of_part moved.range.below in
      let within_part = subst (λ n. SwapsInRange n moved.range.moves) (length-map part f) below in
      let is : map f new ≡ slice_range values start end =
      apply_swaps-map f part moved.range.moves ∙ ap (λ l. apply_swaps l moved.range.moves) (map-slice_range f xs start end)
      ∙ sym moved.range.is in (
        take start xs ++ (new ++ drop end xs),
        permuted_part xs new start end ordered within (record { moves = moved.range.moves; below = within_part; is = refl }),
        map-append f (take start xs) (new ++ drop end xs)
            ∙ ap₂ ◌++◌ (sym (take-map f start xs) ∙ sym moved.before) (map-append f new (drop end xs)
            ∙ ap₂ ◌++◌ is (sym (drop-map f end xs) ∙ sym moved.behind))
            ∙ sym (split_between values start end ordered),
      )

-- outside a permuted range all stands where it stood
outside : {A : Type 0} (start end : ℕ) (xs ys : List A) (k : ℕ) (d : A) → take start ys ≡ take start xs → drop end ys ≡ drop end xs
    → (k < start) ⊎ (end ≤ k) → get_or ys k d ≡ get_or xs k d
outside start end xs ys k d before behind (inl low) =
    sym (get_or-take start ys k d low) ∙ ap (λ l. get_or l k d) before ∙ get_or-take start xs k d low
outside start end xs ys k d before behind (inr high) =
    let sum : end + (k - end) ≡ k = omega arith in
    ap (λ n. get_or ys n d) (sym sum) ∙ sym (get_or-drop end ys (k - end) d) ∙ ap (λ l. get_or l (k - end) d) behind
    ∙ get_or-drop end xs (k - end) d ∙ ap (λ n. get_or xs n d) sum

-- ---- places in a run

-- within a run it doesn't matter from which place another lies in its run
module _ (items : List Item) (start end : ℕ) (run : IsShortRun items start end) where
  from_another : (i j p : ℕ) → start ≤ i → i < end → start ≤ j → j < end → AreInOneRun items j p → AreInOneRun items i p
  from_another i j p low_i high_i low_j high_j (inl same) = inr (record {
    start = start;
    end = end;
    run = run;
    first = (low_i, high_i);
    second = (omega arith, omega arith);
  })
  from_another i j p low_i high_i low_j high_j (inr other) =
      let low_other = other.first.0 in
      let high_other = other.first.1 in
      let low : other.start ≤ i = elim (cases_lt i other.start) [
        | inl below ↦ absurd (no_starter (other.start - 1) (omega arith) (omega arith) (other.run.before (other.start - 1) (omega arith)))
        | inr from ↦ from
      ] in
      let high : i < other.end = elim (cases_lt i other.end) [
        | inl inside ↦ inside
        | inr above ↦ absurd (no_starter other.end (omega arith) (omega arith) other.run.behind)
      ] in
      inr (record { start = other.start; end = other.end; run = other.run; first = (low, high); second = other.second })
    where
      no_starter : (k : ℕ) → start ≤ k → k < end → ccc_of_item (item_at items k) ≡ 0 → ⊥
      no_starter k from to none = let mark = run.marks k from to in omega (arith, mark, none)

  runs_permuted : (places new : List ℕ) → start ≤ end → end ≤ length places → PermutesRange start end places new
      → ((i d : ℕ) → i < length places → AreInOneRun items i (get_or places i d)) → (i d : ℕ) → i < length places
      → AreInOneRun items i (get_or new i d)
  runs_permuted places new ordered within moved runs i d lt =
      elim (cases_lt i start) [
        | inl low ↦ subst (AreInOneRun items i) (sym (outside start end places new i d moved.before moved.behind (inl low))) (runs i d lt)
        | inr from ↦ elim (cases_lt i end) [
          | inr high ↦
              subst (AreInOneRun items i) (sym (outside start end places new i d moved.before moved.behind (inr high))) (runs i d lt)
          | inl inside ↦
              let n = end - start in
              let long : length (slice_range places start end) ≡ n =
              length-take-le n (drop start places) (rw (length-drop start places) (omega arith)) in
              let as_long : length (slice_range new start end) ≡ n =
              length_permutation (slice_range places start end) (slice_range new start end) moved.range ∙ long in
              let of_places : All (AreInOneRun items start) (slice_range places start end) = λ k e below.
              subst (AreInOneRun items start) (sym (range_get places start n k e (omega arith)))
              (from_another start (start + k) (get_or places (start + k) e) (omega arith) (omega arith) (omega arith) (omega arith)
              (runs (start + k) e (omega arith))) in
              let of_new : All (AreInOneRun items start) (slice_range new start end) =
              All-permutation (AreInOneRun items start) (slice_range places start end) (slice_range new start end) moved.range of_places in
              let sum : start + (i - start) ≡ i = omega arith in
              let here : get_or (slice_range new start end) (i - start) d ≡ get_or new i d =
              range_get new start n (i - start) d (omega arith) ∙ ap (λ k. get_or new k d) sum in
              from_another i start (get_or new i d) from inside (omega arith) (omega arith)
              (subst (AreInOneRun items start) here (of_new (i - start) d (omega arith)))
        ]
      ]

-- ---- a run that the hook reorders

-- a run of at most 32 marks, by the ccc of the items in it and beside it
short_run : (items : List Item) (start end : ℕ) → IsRun (map ccc_of_item items) start end → end - start ≤ max_run → IsShortRun items start end
short_run items start end run few = record {
  short = few;
  marks = λ k from to.
      let own = map ccc_of_item items in
      let sum : start + (k - start) ≡ k = omega arith in
      let at : get_or (slice_range own start end) (k - start) 0 ≡ ccc_of_item (item_at items k) =
      get_or-take (end - start) (drop start own) (k - start) 0 (omega arith) ∙ get_or-drop start own (k - start) 0
      ∙ ap (λ j. get_or own j 0) sum ∙ value_at ccc_of_item items k (new_item 0 0) in
      rw (← at) (run.marks (k - start) 0 (omega (arith, length-take (end - start) (drop start own), length-drop start own, run.within)));
  before = λ k is. sym (value_at ccc_of_item items k (new_item 0 0)) ∙ run.before k is;
  behind = sym (value_at ccc_of_item items end (new_item 0 0)) ∙ run.behind;
}

-- a run with its spans merged, in order, is permuted
placed_permutes : {B : Type 0} (key : Item → B) → IsKey key → (start end : ℕ) (b : Buffer) → start ≤ end → end ≤ length b.items
    → PermutesRange start end (map key b.items) (map key (run_placed start end b).items)
placed_permutes key is_key start end b ordered within =
    let merged = (spans_merged start end b).items in
    let run = slice_range merged start end in
    let long = merged_length start end b in
    rw (← keys-spans_merged key is_key start end b)
    (PermutesRange-map start end key merged (run_placed start end b).items
    (permuted_part merged (in_order ccc_of_item run) start end ordered (omega arith)
    (permutes_swaps (Swaps-in_order ccc_of_item run))))

module _ (f : Buffer → ℕ → ℕ → Buffer) (lawful : LawfulReorder (Some f)) (one : Buffer) where
  -- a buffer's items are those of the expanded list, each short run in another order, except for clusters, defined
  -- flags and ccc
  pub record IsPlaced (c : Buffer) : Type 0 where
    pub places : List ℕ
    pub order : PermutesRuns one.items places
    pub same : map without_ccc c.items ≡ map (λ place. without_ccc (item_at one.items place)) places

  module _ (start end : ℕ) (c : Buffer) (ordered : start ≤ end) (within : end ≤ length c.items)
      (marks : AreMarks (slice_range c.items start end)) (run : IsRun (map ccc_of_item one.items) start end) (so_far : IsPlaced c) where
    long : length so_far.places ≡ length c.items
    long = sym (length-map so_far.places (λ place. without_ccc (item_at one.items place))) ∙ ap length (sym so_far.same)
        ∙ length-map c.items without_ccc

    as_long : length so_far.places ≡ length one.items
    as_long = length_permutation (all_places one.items) so_far.places so_far.order.all ∙ length-range_with_len 0 (length one.items)

    reordered : end - start ≤ max_run → IsPlaced (run_reordered (Some f) start end (run_placed start end c))
    reordered few =
        let placed = run_placed start end c in
        let new = run_reordered (Some f) start end placed in
        let inside : end ≤ length placed.items = rw (length-run_placed start end c ordered) within in
        let steps = Reorders-run_reordered (Some f) lawful start end placed (run_placed-in_order start end c ordered within marks few) in
        let moved = PermutesRange-trans start end (map without_ccc c.items) (map without_ccc placed.items) (map without_ccc new.items)
        (placed_permutes without_ccc IsKey-without_ccc start end c ordered within)
        (Reorders-permutes start end placed inside without_ccc IsKey-without_ccc (λ item ccc. refl) steps) in
        let fits : end ≤ length so_far.places = rw long within in
        let lifted = things_permuted (λ place. without_ccc (item_at one.items place)) so_far.places
        (map without_ccc new.items) start end ordered fits (rw (← so_far.same) moved) in
        record {
          places = lifted.0;
          order = record {
            all = IsPermutation-trans (all_places one.items) so_far.places lifted.0 so_far.order.all
                (IsPermutation-range start end so_far.places lifted.0 ordered lifted.1);
            runs = λ i d lt. runs_permuted one.items start end (short_run one.items start end run few) so_far.places lifted.0 ordered fits lifted.1
                (λ j e below. so_far.order.runs j e (omega (arith, as_long))) i d (omega (arith, as_long));
          };
          same = sym lifted.2;
        }

    settled_place : IsPlaced (run_settled (Some f) c (start, end))
    settled_place = settled_cases (Some f) start end c IsPlaced reordered so_far

  pub marks_placed : IsPlaced (marks_ordered (Some f) one)
  marks_placed =
      preserved_by_marks_ordered (Some f) lawful one IsPlaced
      (λ start end c run within marks so_far. settled_place start end c run.ordered within marks run so_far)
      (record {
        places = all_places one.items;
        order = record {
          all = IsPermutation-refl (all_places one.items);
          runs = λ i d lt. let at : get_or (all_places one.items) i d ≡ 0 + i = get_or-range_with_len 0 (length one.items) i d lt in
              inl (omega arith);
        };
        same = by_places without_ccc one.items;
      })
