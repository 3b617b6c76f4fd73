-- The rows of what can be cut into lines.
use Rattle.std.proofs.Common.{ℕ, zero, suc, ◌+◌, ◌<◌, ◌≤◌, ◌≡◌, List, [], ◌∷◌, inl, inr, refl, arith}
use Rattle.std.specs.Prelude.{nat_lt, true, Bool, All}
use Rattle.std.specs.List.{list_all}
use Rattle.std.specs.List.Sorted.{IsNonDecreasing}
use Rattle.shape_items.specs.ClusterOrder.{IsNonIncreasing}
use Rattle.shape_items.specs.Clusters.{clusters}
use Rattle.shape_items.specs.Items.{Item}
use Rattle.shape_lines.specs.Worked.CanCut.{WorkedCanCut, WorkedCannotCut, marked, in_clusters}
use Rattle.shape_lines.proofs.NeighbourLemmas.{EachPair, rises_to, falls_to, rises-pairs, falls-pairs, below_end}

-- a pair in front of others
before : (test : Item → Item → Bool) (x y : Item) (items : List Item) → test x y ≡ true → EachPair test (y ∷ items) → EachPair test (x ∷ y ∷ items)
before test x y items first later zero d lt = first
before test x y items first later (suc k) d lt =
    let e : suc k + 1 ≡ suc (k + 1) = omega arith in
    rw e (later k d (omega arith))

none : (test : Item → Item → Bool) (x : Item) → EachPair test (x ∷ [])
none test x k d lt = absurd (omega arith)

rises : (items : List Item) → EachPair rises_to items → IsNonDecreasing (clusters items)
rises items = (rises-pairs items).0

falls : (items : List Item) → EachPair falls_to items → IsNonIncreasing (clusters items)
falls items = (falls-pairs items).0

low : (items : List Item) (end : ℕ) → list_all (λ (item : Item). nat_lt item.cluster end) items ≡ true → All (λ cluster. cluster < end) (clusters items)
low items end = (below_end items end).0

pub worked_can_cut : WorkedCanCut
worked_can_cut = record {
  none = record {
    monotone = inl (λ i j d le lt. absurd (omega arith));
    one_set = tt;
    below = λ k d lt. absurd (omega arith);
  };
  rising = record {
    monotone = inl (rises (in_clusters (0 ∷ 0 ∷ 2 ∷ [])) (before rises_to (marked 0 0) (marked 0 0) (marked 2 0 ∷ []) refl
        (before rises_to (marked 0 0) (marked 2 0) [] refl (none rises_to (marked 2 0)))));
    one_set = (λ e. refl, (λ e. refl, tt));
    below = low (in_clusters (0 ∷ 0 ∷ 2 ∷ [])) 3 refl;
  };
  falling = record {
    monotone = inr (falls (in_clusters (2 ∷ 0 ∷ 0 ∷ [])) (before falls_to (marked 2 0) (marked 0 0) (marked 0 0 ∷ []) refl
        (before falls_to (marked 0 0) (marked 0 0) [] refl (none falls_to (marked 0 0)))));
    one_set = (λ e. refl, (λ e. refl, tt));
    below = low (in_clusters (2 ∷ 0 ∷ 0 ∷ [])) 3 refl;
  };
  one_cluster = record {
    monotone = inl (rises (in_clusters (4 ∷ 4 ∷ [])) (before rises_to (marked 4 0) (marked 4 0) [] refl (none rises_to (marked 4 0))));
    one_set = (λ e. refl, tt);
    below = low (in_clusters (4 ∷ 4 ∷ [])) 5 refl;
  };
  flags_of_two_clusters = record {
    monotone = inl (rises (marked 0 1 ∷ marked 2 0 ∷ []) (before rises_to (marked 0 1) (marked 2 0) [] refl (none rises_to (marked 2 0))));
    one_set = (λ e. let other : 0 ≡ 2 = e in absurd (omega arith), tt);
    below = low (marked 0 1 ∷ marked 2 0 ∷ []) 9 refl;
  };
  features_of_one_cluster = record {
    monotone = inl (rises (marked 0 9 ∷ marked 0 17 ∷ []) (before rises_to (marked 0 9) (marked 0 17) [] refl (none rises_to (marked 0 17))));
    one_set = (λ e. refl, tt);
    below = low (marked 0 9 ∷ marked 0 17 ∷ []) 9 refl;
  };
}

pub worked_cannot_cut : WorkedCannotCut
worked_cannot_cut = record {
  rising_then_falling = λ can. elim can.monotone [
    | inl rise ↦ let less : 2 ≤ 1 = rise 1 2 0 (omega arith) (omega arith) in absurd (omega arith)
    | inr fall ↦ let less : 2 ≤ 0 = fall 0 1 0 (omega arith) (omega arith) in absurd (omega arith)
  ];
  at_the_end = λ can. let less : 2 < 2 = can.below 1 0 (omega arith) in absurd (omega arith);
  first_at_the_end = λ can. let less : 2 < 2 = can.below 0 0 (omega arith) in absurd (omega arith);
  break_of_one = λ can. let same : 1 ≡ 0 = can.one_set.0 refl in absurd (omega arith);
  concat_of_one = λ can. let same : 0 ≡ 2 = can.one_set.0 refl in absurd (omega arith);
  tatweel_of_one = λ can. let same : 4 ≡ 0 = can.one_set.0 refl in absurd (omega arith);
}
