-- Lists in storage, and merging before a gap, computed by hand.
use Rattle.std.specs.Prelude.{◌≡◌, ℕ, List, [], ◌∷◌, length, refl}
use Rattle.std.proofs.Common.{arith}
use Rattle.shape_items.specs.Items.{Item, new_item}
use Rattle.layout_buffer.specs.Gap.{around}
use Rattle.layout_buffer.specs.GapLists.{IsGap}
use Rattle.layout_buffer.specs.GapMerging.{growth_after}
use Rattle.layout_buffer.specs.declared.gap.GapList.{GapList}

abbrev pub four : List ℕ
four = 5 ∷ 6 ∷ 7 ∷ 8 ∷ []

pub record WorkedGaps : Type 0 where
  -- two places after the first item
  pub within : around 1 2 four ≡ 5 ∷ 8 ∷ []
  pub at_the_start : around 0 3 four ≡ 8 ∷ []
  pub at_the_end : around 3 1 four ≡ 5 ∷ 6 ∷ 7 ∷ []
  -- a gap without a place, wherever it is
  pub none : around 2 0 four ≡ four
  pub all : around 0 4 four ≡ []
  pub up_to_the_end : (l : GapList ℕ) → l.at ≡ 2 → l.room ≡ 2 → length l.stored.items ≡ 4 → IsGap l
  pub past_the_end : (l : GapList ℕ) → l.at ≡ 2 → l.room ≡ 2 → length l.stored.items ≡ 3 → IsGap l → ⊥

pub worked_gaps : WorkedGaps
worked_gaps = record {
  within = refl;
  at_the_start = refl;
  at_the_end = refl;
  none = refl;
  all = refl;
  up_to_the_end = λ l a r s. omega (arith, a, r, s);
  past_the_end = λ l a r s is. omega (arith, a, r, s, is);
}

-- a letter in that cluster
abbrev pub of : ℕ → Item
of cluster = new_item 97 cluster

pub record WorkedGrowth : Type 0 where
  -- clusters 1 and 2 merge, and two items of cluster 2 stand after them
  pub rest_of_the_last : growth_after 1 (of 0 ∷ of 1 ∷ of 2 ∷ []) (of 2 ∷ of 2 ∷ of 3 ∷ of 2 ∷ []) ≡ 2
  -- the last cluster is the least one: it stays
  pub last_is_least : growth_after 0 (of 2 ∷ of 1 ∷ []) (of 1 ∷ of 1 ∷ []) ≡ 0
  -- what stands before the span doesn't count
  pub least_of_the_span : growth_after 1 (of 0 ∷ of 2 ∷ of 2 ∷ []) (of 2 ∷ []) ≡ 0
  pub nothing_after : growth_after 0 (of 1 ∷ of 2 ∷ []) [] ≡ 0

pub worked_growth : WorkedGrowth
worked_growth = record { rest_of_the_last = refl; last_is_least = refl; least_of_the_span = refl; nothing_after = refl }
