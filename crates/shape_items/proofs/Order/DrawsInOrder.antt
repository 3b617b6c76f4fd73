-- Lists drawn from others in order.
use Rattle.std.proofs.Common.{◌≡◌, ℕ, zero, suc, ◌<◌, ◌≤◌, List, ◌∷◌, length, get_or, slice_index, refl, sym, ◌∙◌, arith}
use Rattle.std.proofs.lemmas.List.{get_or_default}
use Rattle.std.specs.Prelude.{Contains}
use Rattle.std.specs.List.Sorted.{IsNonDecreasing}
use Rattle.shape_items.specs.ClusterOrder.{IsNonIncreasing, PreservesClusters}

-- each cluster of the second list is one of the first, and they come in the order of their places there
pub record DrawsInOrder (before after : List ℕ) : Type 0 where
  pub place : ℕ → ℕ
  pub within : (k : ℕ) → k < length after → place k < length before
  pub same : (k : ℕ) → k < length after → slice_index after k ≡ slice_index before (place k)
  pub in_order : (i j : ℕ) → i ≤ j → j < length after → place i ≤ place j

-- what was drawn, at any default
drawn : (before after : List ℕ) (h : DrawsInOrder before after) (k d : ℕ) → k < length after
    → get_or after k d ≡ get_or before (h.place k) d
drawn before after h k d lt =
    get_or_default after k d 0 lt ∙ h.same k lt ∙ get_or_default before (h.place k) 0 d (h.within k lt)

pub draws_rising : (before after : List ℕ) → DrawsInOrder before after → IsNonDecreasing before → IsNonDecreasing after
draws_rising before after h r i j d le lt =
    let li : i < length after = omega arith in
    rw (drawn before after h i d li, drawn before after h j d lt) (r (h.place i) (h.place j) d (h.in_order i j le lt) (h.within j lt))

pub draws_falling : (before after : List ℕ) → DrawsInOrder before after → IsNonIncreasing before → IsNonIncreasing after
draws_falling before after h r i j d le lt =
    let li : i < length after = omega arith in
    rw (drawn before after h i d li, drawn before after h j d lt) (r (h.place i) (h.place j) d (h.in_order i j le lt) (h.within j lt))

pub draws_none_new : (before after : List ℕ) → DrawsInOrder before after → (x : ℕ) → Contains after x → Contains before x
draws_none_new before after h x (k, lt, e) =
    (h.place k, h.within k lt, sym (drawn before after h k x lt) ∙ e)

pub PreservesClusters-from_draws : (before after : List ℕ) → DrawsInOrder before after → PreservesClusters before after
PreservesClusters-from_draws before after h = record {
  rising = draws_rising before after h;
  falling = draws_falling before after h;
  none_new = draws_none_new before after h;
}

pub DrawsInOrder-same : (xs : List ℕ) → DrawsInOrder xs xs
DrawsInOrder-same xs = record { place = λ k. k; within = λ k lt. lt; same = λ k lt. refl; in_order = λ i j le lt. le }

pub DrawsInOrder-then : (xs ys zs : List ℕ) → DrawsInOrder xs ys → DrawsInOrder ys zs → DrawsInOrder xs zs
DrawsInOrder-then xs ys zs f g = record {
  place = λ k. f.place (g.place k);
  within = λ k lt. f.within (g.place k) (g.within k lt);
  same = λ k lt. g.same k lt ∙ f.same (g.place k) (g.within k lt);
  in_order = λ i j le lt. f.in_order (g.place i) (g.place j) (g.in_order i j le lt) (g.within j lt);
}

-- after one more at the front
pub DrawsInOrder-after : (x : ℕ) (xs ys : List ℕ) → DrawsInOrder xs ys → DrawsInOrder (x ∷ xs) ys
DrawsInOrder-after x xs ys h = record {
  place = λ k. suc (h.place k);
  within = λ k lt. omega (arith, h.within k lt);
  same = λ k lt. h.same k lt;
  in_order = λ i j le lt. omega (arith, h.in_order i j le lt);
}

-- the places if the one at the front is drawn once more, before the others
abbrev place_again : (ℕ → ℕ) → ℕ → ℕ
place_again place zero = 0
place_again place (suc k) = place k

-- and the one at the front once more
pub DrawsInOrder-again : (x : ℕ) (xs ys : List ℕ) → DrawsInOrder (x ∷ xs) ys → DrawsInOrder (x ∷ xs) (x ∷ ys)
DrawsInOrder-again x xs ys h = record { place = place_again h.place; within = within; same = same; in_order = in_order }
  where
    within : (k : ℕ) → k < length (x ∷ ys) → place_again h.place k < length (x ∷ xs)
    within zero lt = omega arith
    within (suc k) lt = h.within k (omega arith)

    same : (k : ℕ) → k < length (x ∷ ys) → slice_index (x ∷ ys) k ≡ slice_index (x ∷ xs) (place_again h.place k)
    same zero lt = refl
    same (suc k) lt = h.same k (omega arith)

    in_order : (i j : ℕ) → i ≤ j → j < length (x ∷ ys) → place_again h.place i ≤ place_again h.place j
    in_order zero j le lt = omega arith
    in_order (suc i) zero le lt = absurd (omega arith)
    in_order (suc i) (suc j) le lt = h.in_order i j (omega arith) (omega arith)
