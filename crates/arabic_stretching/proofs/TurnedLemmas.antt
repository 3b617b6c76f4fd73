-- What preserves clusters does so with both lists turned round.
use Rattle.std.proofs.Common.{◌≡◌, ℕ, List, reverse, sym, subst}
use Rattle.std.proofs.lemmas.List.{reverse-reverse}
use Rattle.std.specs.Prelude.{Contains}
use Rattle.std.specs.List.Sorted.{IsNonDecreasing}
use Rattle.shape_items.specs.ClusterOrder.{IsNonIncreasing, PreservesClusters}
use Rattle.shape_items.proofs.Order.ReversedLemmas.{falls-reverse, rises-reverse, Contains-reverse}

pub clusters-turned : (xs ys : List ℕ) → PreservesClusters xs ys → PreservesClusters (reverse xs) (reverse ys)
clusters-turned xs ys p = record {
  rising = λ h. rises-reverse ys (p.falling (subst IsNonIncreasing (reverse-reverse xs) (falls-reverse (reverse xs) h)));
  falling = λ h. falls-reverse ys (p.rising (subst IsNonDecreasing (reverse-reverse xs) (rises-reverse (reverse xs) h)));
  none_new = λ k h.
      let there = p.none_new k (Contains-reverse ys k h) in
      Contains-reverse (reverse xs) k (subst (λ (zs : List ℕ). Contains zs k) (sym (reverse-reverse xs)) there);
}
