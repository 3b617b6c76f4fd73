-- The rows of clusters and flags, each computed by a test that tells whether the promise holds.
use Rattle.std.proofs.Common.{◌≡◌, ◌==◌, ◌&&◌, ℕ, zero, suc, ◌<◌, ◌≤◌, nat_le, Bool, true, false, List, [], ◌∷◌, length, get_or, refl, sym, ap, subst, arith, lit≤, lit<}
use Rattle.std.proofs.lemmas.Bool.{and_parts, both_ways}
use Rattle.std.proofs.lemmas.Bool.Decides.{nat_tests}
use Rattle.std.proofs.lemmas.Cmp.{nat_eq_equiv}
use Rattle.std.proofs.lemmas.List.Elements.{All-contains}
use Rattle.std.proofs.lemmas.List.Sums.{AllPass-from_list_all}
use Rattle.std.proofs.lemmas.Map.Views.{list_any-from_Contains, Contains-from_any, exact_unsigned_eq}
use Rattle.std.specs.List.{Contains, list_all, list_any}
use Rattle.std.specs.List.Sorted.{IsNonDecreasing}
use Rattle.shape_items.specs.Clusters.{clusters}
use Rattle.shape_items.specs.ClusterOrder.{IsNonIncreasing, IsOrderedFor}
use Rattle.shape_common.specs.Direction.{is_backward}
use Rattle.shape_common.specs.declared.text_types.BufferClusterLevel.{BufferClusterLevel}
use Rattle.shape_common.specs.declared.text_types.BufferClusterLevel.TheVariants.{MonotoneGraphemes, MonotoneCharacters}
use Rattle.shape_common.specs.declared.text_types.Direction.{Direction}
use Rattle.shape_common.specs.declared.text_types.Direction.TheVariants.{LeftToRight, RightToLeft, TopToBottom, BottomToTop}
use Rattle.shape_pipeline.specs.Order.{grapheme_clusters}
use Rattle.shape_plan.specs.Run.{Run}
use Rattle.shape_prepare.specs.Begun.{begun}
use Rattle.shape_prepare.specs.Graphemes.{graphemes_marked}
use Rattle.shape_prepare.specs.Worked.Unicode.{worked_unicode}
use Rattle.test_fixtures.specs.Worked.Clusters.{accented, glyphs_in, Come, ComeNot, OrderOfClusters, NoOrderOfClusters, AtNoMonotoneLevel, FlagsOfClusters, NoFlagsOfClusters, WorkedPromises}

-- ---- tests of lists of clusters

-- a relation holds from each number to all after it
abbrev in_order_by : (ℕ → ℕ → Bool) → List ℕ → Bool
in_order_by before [] = true
in_order_by before (k ∷ ks) = list_all (before k) ks && in_order_by before ks

read_all : (test : ℕ → Bool) (ks : List ℕ) (j d : ℕ) → list_all test ks ≡ true → j < length ks → test (get_or ks j d) ≡ true
read_all test [] j d all within = absurd (omega (arith, within))
read_all test (k ∷ ks) zero d all within = (and_parts (test k) (list_all test ks) all).0
read_all test (k ∷ ks) (suc j) d all within = read_all test ks j d (and_parts (test k) (list_all test ks) all).1 (omega (arith, within))

read_order : (before : ℕ → ℕ → Bool) → ((k : ℕ) → before k k ≡ true) → (ks : List ℕ) → in_order_by before ks ≡ true
    → (i j d : ℕ) → i ≤ j → j < length ks → before (get_or ks i d) (get_or ks j d) ≡ true
read_order before same [] order i j d le within = absurd (omega (arith, within))
read_order before same (k ∷ ks) order zero zero d le within = same k
read_order before same (k ∷ ks) order zero (suc j) d le within =
    read_all (before k) ks j d (and_parts (list_all (before k) ks) (in_order_by before ks) order).0 (omega (arith, within))
read_order before same (k ∷ ks) order (suc i) zero d le within = absurd (omega (arith, le))
read_order before same (k ∷ ks) order (suc i) (suc j) d le within =
    let later = (and_parts (list_all (before k) ks) (in_order_by before ks) order).1 in
    read_order before same ks later i j d (omega (arith, le)) (omega (arith, within))

at_most : (k n : ℕ) → nat_le k n ≡ true → k ≤ n
at_most k n test = grind (arith, nat_tests)

at_most_itself : (k : ℕ) → nat_le k k ≡ true
at_most_itself k = grind (arith, nat_tests)

rises : (ks : List ℕ) → in_order_by nat_le ks ≡ true → IsNonDecreasing ks
rises ks order i j d le within = at_most _ _ (read_order nat_le at_most_itself ks order i j d le within)

falls : (ks : List ℕ) → in_order_by (λ k n. nat_le n k) ks ≡ true → IsNonIncreasing ks
falls ks order i j d le within = at_most _ _ (read_order (λ k n. nat_le n k) at_most_itself ks order i j d le within)

-- a list holds a number
abbrev holds : List ℕ → ℕ → Bool
holds ks k = list_any (λ n. k == n) ks

contained : (ks : List ℕ) (k : ℕ) → Contains ks k → holds ks k ≡ true
contained ks k there = list_any-from_Contains nat_eq_equiv k ks there

-- each number of one list is in the other
come_from : (ks olds : List ℕ) → list_all (holds olds) ks ≡ true → (k : ℕ) → Contains ks k → Contains olds k
come_from ks olds all k there =
    Contains-from_any exact_unsigned_eq k olds
    (All-contains (λ n. holds olds n ≡ true) ks k (AllPass-from_list_all (holds olds) ks all) there)

-- ---- the rows of clusters

-- the clusters of glyphs are those that they were made of
clusters-glyphs_in : (ks : List ℕ) → clusters (glyphs_in ks).items ≡ ks
clusters-glyphs_in [] = refl
clusters-glyphs_in (k ∷ ks) = ap (λ ns. k ∷ ns) (clusters-glyphs_in ks)

abbrev over : Run → Run
over run = record run { unicode = worked_unicode }

-- the text has graphemes at 0 and 3
firsts : (run : Run) (level : BufferClusterLevel) → grapheme_clusters (over run) (accented level) ≡ 0 ∷ 3 ∷ []
unfolding graphemes_marked begun
firsts run level = refl

come : (level : BufferClusterLevel) (target : Direction) (ks : List ℕ) → list_all (holds (0 ∷ 1 ∷ 3 ∷ [])) ks ≡ true
    → (level ≡ MonotoneGraphemes → list_all (holds (0 ∷ 3 ∷ [])) ks ≡ true) → IsOrderedFor (is_backward target) ks → Come level target ks
come level target ks from from_firsts order run =
    let same = sym (clusters-glyphs_in ks) in
    let first_of : level ≡ MonotoneGraphemes → (k : ℕ) → Contains ks k → Contains (grapheme_clusters (over run) (accented level)) k =
    λ graphemes k there. subst (λ (ns : List ℕ). Contains ns k) (sym (firsts run level))
    (come_from ks (0 ∷ 3 ∷ []) (from_firsts graphemes) k there) in
    record {
      from_text = λ k there. come_from ks (0 ∷ 1 ∷ 3 ∷ []) from k (subst (λ (ns : List ℕ). Contains ns k) (sym same) there);
      from_firsts = λ graphemes k there. first_of graphemes k (subst (λ (ns : List ℕ). Contains ns k) (sym same) there);
      ordered = subst (IsOrderedFor (is_backward target)) same order;
    }

no_grapheme : {A : Type 0} → MonotoneCharacters ≡ MonotoneGraphemes → A
no_grapheme level = absurd (let e : MonotoneCharacters ≡ MonotoneGraphemes = level in cc)

order_of_clusters : OrderOfClusters
order_of_clusters = record {
  rightward = come MonotoneCharacters LeftToRight (0 ∷ 1 ∷ 3 ∷ []) refl no_grapheme (rises (0 ∷ 1 ∷ 3 ∷ []) refl);
  leftward = come MonotoneCharacters RightToLeft (3 ∷ 1 ∷ 0 ∷ []) refl no_grapheme (falls (3 ∷ 1 ∷ 0 ∷ []) refl);
  downward = come MonotoneCharacters TopToBottom (0 ∷ 1 ∷ 3 ∷ []) refl no_grapheme (rises (0 ∷ 1 ∷ 3 ∷ []) refl);
  upward = come MonotoneCharacters BottomToTop (3 ∷ 1 ∷ 0 ∷ []) refl no_grapheme (falls (3 ∷ 1 ∷ 0 ∷ []) refl);
  none = come MonotoneCharacters LeftToRight [] refl no_grapheme (rises [] refl);
  merged = come MonotoneCharacters LeftToRight (0 ∷ 0 ∷ 3 ∷ []) refl no_grapheme (rises (0 ∷ 0 ∷ 3 ∷ []) refl);
  merged_leftward = come MonotoneCharacters RightToLeft (3 ∷ 1 ∷ 1 ∷ []) refl no_grapheme (falls (3 ∷ 1 ∷ 1 ∷ []) refl);
  doubled = come MonotoneCharacters LeftToRight (1 ∷ 1 ∷ 1 ∷ 3 ∷ []) refl no_grapheme (rises (1 ∷ 1 ∷ 1 ∷ 3 ∷ []) refl);
  graphemes = come MonotoneGraphemes LeftToRight (0 ∷ 0 ∷ 3 ∷ []) refl (λ level. refl) (rises (0 ∷ 0 ∷ 3 ∷ []) refl);
  graphemes_leftward = come MonotoneGraphemes RightToLeft (3 ∷ 0 ∷ 0 ∷ []) refl (λ level. refl) (falls (3 ∷ 0 ∷ 0 ∷ []) refl);
}

-- a smaller cluster after a greater one, and a greater one after a smaller
no_rise : (ks : List ℕ) (i j : ℕ) → i ≤ j → j < length ks → get_or ks j 0 < get_or ks i 0 → IsNonDecreasing ks → ⊥
no_rise ks i j le within less rising = let e = rising i j 0 le within in omega (arith, e, less)

no_fall : (ks : List ℕ) (i j : ℕ) → i ≤ j → j < length ks → get_or ks i 0 < get_or ks j 0 → IsNonIncreasing ks → ⊥
no_fall ks i j le within less falling = let e = falling i j 0 le within in omega (arith, e, less)

shown_in : (ks : List ℕ) (k : ℕ) → holds ks k ≡ true → Contains (clusters (glyphs_in ks).items) k
shown_in ks k there =
    subst (λ (ns : List ℕ). Contains ns k) (sym (clusters-glyphs_in ks)) (Contains-from_any exact_unsigned_eq k ks there)

-- a cluster that isn't the text's, or not that of a first character
from_nowhere : (level : BufferClusterLevel) (target : Direction) (ks : List ℕ) (k : ℕ) → holds ks k ≡ true
    → holds (0 ∷ 1 ∷ 3 ∷ []) k ≡ false → ComeNot level target ks
from_nowhere level target ks k there nowhere run come =
    let here = shown_in ks k there in
    both_ways _ nowhere (contained (0 ∷ 1 ∷ 3 ∷ []) k (come.from_text k here))

inside : (target : Direction) (ks : List ℕ) (k : ℕ) → holds ks k ≡ true → holds (0 ∷ 3 ∷ []) k ≡ false → ComeNot MonotoneGraphemes target ks
inside target ks k there nowhere run come =
    let here = shown_in ks k there in
    let first = come.from_firsts refl k here in
    both_ways _ nowhere (contained (0 ∷ 3 ∷ []) k (subst (λ (ns : List ℕ). Contains ns k) (firsts run MonotoneGraphemes) first))

no_order_of_clusters : NoOrderOfClusters
no_order_of_clusters = record {
  falls = λ run come. no_rise (1 ∷ 0 ∷ 3 ∷ []) 0 1 (lit≤ tt) (lit< tt) (lit< tt) come.ordered;
  falls_at_the_end = λ run come. no_rise (0 ∷ 3 ∷ 1 ∷ []) 1 2 (lit≤ tt) (lit< tt) (lit< tt) come.ordered;
  falls_downward = λ run come. no_rise (3 ∷ 1 ∷ 0 ∷ []) 0 1 (lit≤ tt) (lit< tt) (lit< tt) come.ordered;
  rises_leftward = λ run come. no_fall (0 ∷ 1 ∷ 3 ∷ []) 0 1 (lit≤ tt) (lit< tt) (lit< tt) come.ordered;
  rises_upward = λ run come. no_fall (3 ∷ 0 ∷ 1 ∷ []) 1 2 (lit≤ tt) (lit< tt) (lit< tt) come.ordered;
  from_nowhere = from_nowhere MonotoneCharacters LeftToRight (0 ∷ 2 ∷ 3 ∷ []) 2 refl refl;
  past_the_text = from_nowhere MonotoneCharacters RightToLeft (4 ∷ 0 ∷ []) 4 refl refl;
  falls_at_graphemes = λ run come. no_rise (3 ∷ 0 ∷ 0 ∷ []) 0 1 (lit≤ tt) (lit< tt) (lit< tt) come.ordered;
  inside_a_grapheme = inside LeftToRight (0 ∷ 1 ∷ 3 ∷ []) 1 refl refl;
  inside_leftward = inside RightToLeft (3 ∷ 1 ∷ []) 1 refl refl;
}

at_no_monotone_level : AtNoMonotoneLevel
at_no_monotone_level = record { anything = λ run ks preserves level. absurd level }

-- ---- the rows of flags

flags_of_clusters : FlagsOfClusters
flags_of_clusters = record {
  none = record { one_set = tt; concat = λ unasked. refl };
  one_set = record { one_set = (λ same. refl, (λ same. absurd (let e : 0 ≡ 3 = same in cc), tt)); concat = λ unasked. refl };
  each_its_own = record {
    one_set = (λ same. absurd (let e : 3 ≡ 1 = same in cc), (λ same. absurd (let e : 1 ≡ 0 = same in cc), tt));
    concat = λ unasked. refl;
  };
  features_differ = record { one_set = (λ same. refl, tt); concat = λ unasked. refl };
  asked_for = record {
    one_set = (λ same. refl, (λ same. absurd (let e : 0 ≡ 1 = same in cc), tt));
    concat = λ unasked. absurd (let e : true ≡ false = unasked in cc);
  };
}

no_flags_of_clusters : NoFlagsOfClusters
no_flags_of_clusters = record {
  first_differs = λ flags. let e : 1 ≡ 0 = flags.one_set.0 refl in absurd cc;
  last_differs = λ flags. let e : 0 ≡ 4 = flags.one_set.1.0 refl in absurd cc;
  leftward = λ flags. let e : 1 ≡ 3 = flags.one_set.1.0 refl in absurd cc;
  unasked = λ flags. let e : true ≡ false = flags.concat refl in absurd cc;
  others_asked = λ flags. let e : true ≡ false = flags.concat refl in absurd cc;
}

pub worked_promises : WorkedPromises
worked_promises = record {
  order = order_of_clusters;
  no_order = no_order_of_clusters;
  at_no_level = at_no_monotone_level;
  flags = flags_of_clusters;
  no_flags = no_flags_of_clusters;
}
