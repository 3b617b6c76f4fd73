-- In a list whose clusters are in order, the glyphs of a span of text stand side by side.
use Rattle.std.proofs.Common.{◌≡◌, ℕ, ◌-◌, ◌<◌, ◌≤◌, ◌⊎◌, Bool, true, false, List, length, nat_lt, refl, arith, inl, inr}
use Rattle.std.proofs.lemmas.Bool.Decides.{nat_tests}
use Rattle.std.proofs.lemmas.List.{length-map}
use Rattle.std.specs.Prelude.{◌↔◌, min, max}
use Rattle.shape_items.specs.Clusters.{clusters}
use Rattle.shape_items.specs.Items.{Item, new_item}
use Rattle.shape_items.specs.ClusterOrder.{IsOrderedFor}
use Rattle.shape_users.specs.Paragraph.{cluster_at, FirstToLast, ShowsExactly}
use Rattle.shape_users.proofs.LineLemmas.{cluster-at}

-- the clusters of two glyphs, in the order of the list
pub in_order : (backward : Bool) (xs : List Item) → IsOrderedFor backward (clusters xs) → (i j : ℕ) → i ≤ j → j < length xs
    → elim backward as (λ v. Type 0) [ true ↦ cluster_at xs j ≤ cluster_at xs i | false ↦ cluster_at xs i ≤ cluster_at xs j ]
in_order true xs ordered i j le within =
    let d = new_item 0 0 in
    let fact = ordered i j 0 le (rw length-map within) in
    omega (arith, fact, cluster-at xs i d (omega arith), cluster-at xs j d within)
in_order false xs ordered i j le within =
    let d = new_item 0 0 in
    let fact = ordered i j 0 le (rw length-map within) in
    omega (arith, fact, cluster-at xs i d (omega arith), cluster-at xs j d within)

-- what stands between two glyphs of a span lies in it
between : (backward : Bool) (xs : List Item) → IsOrderedFor backward (clusters xs) → (from to i m j : ℕ) → i ≤ m → m ≤ j → j < length xs
    → (from ≤ cluster_at xs i) × (cluster_at xs i < to) → (from ≤ cluster_at xs j) × (cluster_at xs j < to)
    → (from ≤ cluster_at xs m) × (cluster_at xs m < to)
between true xs ordered from to i m j first second within low high =
    let a = in_order true xs ordered i m first (omega arith) in
    let b = in_order true xs ordered m j second within in
    (omega (arith, a, b, low.0, high.0), omega (arith, a, b, low.1, high.1))
between false xs ordered from to i m j first second within low high =
    let a = in_order false xs ordered i m first (omega arith) in
    let b = in_order false xs ordered m j second within in
    (omega (arith, a, b, low.0, high.0), omega (arith, a, b, low.1, high.1))

pub glyphs_exact : (backward : Bool) (xs : List Item) (from to start end : ℕ) → FirstToLast xs from to (length xs) start end
    → IsOrderedFor backward (clusters xs)
    → (k : ℕ) → k < length xs → ((start ≤ k) × (k < end)) ↔ ((from ≤ cluster_at xs k) × (cluster_at xs k < to))
glyphs_exact backward xs from to start end found ordered k within = (there, here)
  where
    there : (start ≤ k) × (k < end) → (from ≤ cluster_at xs k) × (cluster_at xs k < to)
    there h =
        let some : start < end = omega (arith, h.0, h.1) in
        between backward xs ordered from to start k (end - 1) h.0 (omega (arith, h.1)) (omega (arith, found.within)) (found.first some)
        (found.last some)

    here : (from ≤ cluster_at xs k) × (cluster_at xs k < to) → (start ≤ k) × (k < end)
    here h = found.inside k within h.0 h.1

-- a test of numbers, with what it means
pub split : (i j : ℕ) → (i < j) ⊎ (j ≤ i)
split i j =
    let P : Bool → Type 0 = λ t. nat_lt i j ≡ t → (i < j) ⊎ (j ≤ i) in
    let cases : P (nat_lt i j) = elim (nat_lt i j) as P [
      | true ↦ λ e. inl (grind (arith, nat_tests, e))
      | false ↦ λ e. inr
          (grind (arith, nat_tests, e))
    ] in
    cases refl

-- the span from the least cluster of a range up to the next one after its greatest
module _ (xs : List Item) (start end to : ℕ) (some : start < end) (within : end ≤ length xs)
    (above : max (cluster_at xs start) (cluster_at xs (end - 1)) < to)
    (least : (k : ℕ) → k < length xs
    → (cluster_at xs k ≤ max (cluster_at xs start) (cluster_at xs (end - 1))) ⊎ (to ≤ cluster_at xs k)) where
  not_past : (k : ℕ) → k < length xs → cluster_at xs k < to → cluster_at xs k ≤ max (cluster_at xs start) (cluster_at xs (end - 1))
  not_past k inside below = elim (least k inside) [ inl le ↦ le | inr past ↦ absurd (omega (arith, past, below)) ]

  Shown : ℕ → Type 0
  Shown k = (j : ℕ) × (start ≤ j) × (j < end) × (cluster_at xs j ≡ cluster_at xs k)

  pub text_exact : (backward : Bool) → IsOrderedFor backward (clusters xs)
      → ShowsExactly xs start end (min (cluster_at xs start) (cluster_at xs (end - 1))) to
  text_exact true ordered = record {
    theirs = λ k from to. let a = in_order true xs ordered start k from (omega arith) in let b = in_order true xs ordered k (end - 1)
        (omega arith) (omega arith) in (omega (arith, a, b), omega (arith, a, b, above));
    no_other = λ k inside from below. let top = not_past k inside below in let ends = in_order true xs ordered start (end - 1) (omega arith)
        (omega arith) in
        elim (split k start) [
          | inl before ↦ let a = in_order true xs ordered k start (omega arith) (omega arith) in
              (start, omega arith, some, omega (arith, a, top, ends))
          | inr from_start ↦ elim (split k end) [
            | inl inner ↦ (k, from_start, inner, refl)
            | inr behind ↦ let b = in_order true xs ordered (end - 1) k (omega arith) inside in
                (end - 1, omega arith, omega arith, omega (arith, b, from, ends))
          ]
        ];
  }
  text_exact false ordered = record {
    theirs = λ k from to. let a = in_order false xs ordered start k from (omega arith) in let b = in_order false xs ordered k (end - 1)
        (omega arith) (omega arith) in (omega (arith, a, b), omega (arith, a, b, above));
    no_other = λ k inside from below. let top = not_past k inside below in let ends = in_order false xs ordered start (end - 1)
        (omega arith) (omega arith) in
        elim (split k start) [
          | inl before ↦ let a = in_order false xs ordered k start (omega arith) (omega arith) in
              (start, omega arith, some, omega (arith, a, from, ends))
          | inr from_start ↦ elim (split k end) [
            | inl inner ↦ (k, from_start, inner, refl)
            | inr behind ↦ let b = in_order false xs ordered (end - 1) k (omega arith) inside in
                (end - 1, omega arith, omega arith, omega (arith, b, top, ends))
          ]
        ];
  }
