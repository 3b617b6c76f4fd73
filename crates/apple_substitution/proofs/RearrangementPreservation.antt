-- Rearrangement subtables preserve clusters and flags: what changes places is in one cluster, at the levels that merge, and no flag
-- is new, since each item that is written was in the list.
use Prim.Native.Nat.{zero}
use Rattle.std.proofs.Common.{◌≡◌, ℕ, suc, ◌+◌, ◌-◌, ◌<◌, ◌≤◌, ◌&&◌, ◌⊎◌, Bool, true, false, List, [], ◌∷◌, ◌++◌, min, length, take, drop, nat_le, nat_lt}
use Rattle.std.proofs.Common.{refl, ap, sym, ◌∙◌, subst, inl, inr, arith, get_or, if◌then◌else◌, slice_range, slice_set}
use Rattle.std.proofs.lemmas.Bool.{cases_Bool, false≢true, or_cases, or_right}
use Rattle.std.proofs.lemmas.Bool.Decides.{nat_tests}
use Rattle.std.proofs.lemmas.List.{get_or-map, length-append, length-drop, length-take}
use Rattle.std.proofs.Math.Seq.{map-set_same}
use Rattle.std.specs.List.{list_any}
use Rattle.shape_items.specs.Buffer.{Buffer}
use Rattle.shape_items.specs.ClusterOrder.{IsMonotoneLevel}
use Rattle.shape_items.specs.Clusters.{clusters, least_cluster}
use Rattle.shape_items.specs.Items.{Item, new_item}
use Rattle.shape_items.specs.PreservesFlags.{has_flag}
use Rattle.shape_items.proofs.Flags.FlagLemmas.{PreservesFlags-items, append-cases, drop_in, take_in}
use Rattle.shape_items.proofs.Merging.ClusterLemmas.{grown_end}
use Rattle.shape_items.proofs.Merging.JoinLemmas.{cluster_at}
use Rattle.shape_items.proofs.Merging.MergeOrder.{growth_right-within, put_range_inside}
use Rattle.shape_items.proofs.Order.PreservesClusterLemmas.{PreservesClusters-equal}
use Rattle.apple_tables.specs.declared.states.Entry.{Entry}
use Rattle.apple_substitution.specs.Driver.{Spot}
use Rattle.apple_substitution.specs.Edits.{charged, item_at, merge_onwards, merged_onwards, onwards, put_at, written}
use Rattle.apple_substitution.specs.Rearrangement.{actions, count_of, done, is_actionable, is_fitting, marks_of, moved, rearranged, rearranged_at, side_of, sides_of, turns}
use Rattle.apple_substitution.specs.declared.rearrangement.Marks.{Marks}
use Rattle.apple_substitution.specs.declared.rearrangement.Side.{Side}
use Rattle.apple_substitution.specs.declared.rearrangement.Side.TheVariants.{Stays, One, Two, Turned}
use Rattle.apple_substitution.proofs.EditLemmas.{length_put}
use Rattle.apple_substitution.proofs.OnwardsLemmas.{length-onwards, onwards-long, onwards-monotone}
use Rattle.apple_substitution.proofs.PreservedLemmas.{Preserves, Preserves-cases, Preserves-merged_onwards, Preserves-paid, Preserves-same, Preserves-then}

-- ---- what is rearranged is of the list

slice_in : (p : Item → Bool) (a b : ℕ) (xs : List Item) → list_any p (slice_range xs a b) ≡ true → list_any p xs ≡ true
slice_in p a b xs some = drop_in p a xs (take_in p (b - a) (drop a xs) some)

either_in : (p : Item → Bool) (xs ys zs : List Item) → (list_any p xs ≡ true → list_any p zs ≡ true)
    → (list_any p ys ≡ true → list_any p zs ≡ true) → list_any p (xs ++ ys) ≡ true → list_any p zs ≡ true
either_in p xs ys zs first second some = elim (append-cases p xs ys some) [
  | inl here ↦ first here
  | inr later ↦ second later
]

side_in : (p : Item → Bool) (turned : Bool) (a b : ℕ) (xs : List Item) → list_any p (side_of turned a b xs) ≡ true → list_any p xs ≡ true
side_in p true a b xs some =
    either_in p (slice_range xs (a + 1) b) (slice_range xs a (a + 1)) xs (slice_in p (a + 1) b xs) (slice_in p a (a + 1) xs) some
side_in p false a b xs some = slice_in p a b xs some

rearranged_in : (p : Item → Bool) (left right : Side) (start end : ℕ) (xs : List Item)
    → list_any p (rearranged left right start end xs) ≡ true → list_any p xs ≡ true
rearranged_in p left right start end xs some =
    let from : ℕ = start + count_of left in
    let to : ℕ = end - count_of right in
    either_in p (side_of (turns right) to end xs) (slice_range xs from to ++ side_of (turns left) start from xs) xs
    (side_in p (turns right) to end xs)
    (λ later. either_in p (slice_range xs from to) (side_of (turns left) start from xs) xs (slice_in p from to xs)
    (side_in p (turns left) start from xs) later) some

set_in : (p : Item → Bool) (xs : List Item) (i : ℕ) (y : Item) → list_any p (slice_set xs i y) ≡ true
    → (p y ≡ true) ⊎ (list_any p xs ≡ true)
set_in p [] i y some = inr some
set_in p (x ∷ xs) zero y some = elim (or_cases (p y) (list_any p xs) some) [
  | inl here ↦ inl here
  | inr later ↦ inr (or_right (p x) (list_any p xs) later)
]
set_in p (x ∷ xs) (suc i) y some = elim (or_cases (p x) (list_any p (slice_set xs i y)) some) [
  | inl here ↦ inr (rw here refl)
  | inr later ↦ elim (set_in p xs i y later) [
    | inl new ↦ inl new
    | inr old ↦ inr (or_right (p x) (list_any p xs) old)
  ]
]

put_in : (p : Item → Bool) (t : Bool) (i : ℕ) (y : Item) (b : Buffer)
    → list_any p (if t then record b { items = slice_set b.items i y } else b).items ≡ true → (p y ≡ true) ⊎ (list_any p b.items ≡ true)
put_in p true i y b some = set_in p b.items i y some
put_in p false i y b some = inr some

written_in : (p : Item → Bool) (at : ℕ) (xs : List Item) (b : Buffer) → list_any p (written at xs b).items ≡ true
    → (list_any p xs ≡ true) ⊎ (list_any p b.items ≡ true)
written_in p at [] b some = inr some
written_in p at (x ∷ xs) b some = elim (written_in p (at + 1) xs (put_at at x b) some) [
  | inl there ↦ inl (or_right (p x) (list_any p xs) there)
  | inr old ↦ elim (put_in p (nat_lt at (length b.items)) at x b old) [
    | inl here ↦ inl (rw here refl)
    | inr before ↦ inr before
  ]
]

-- ---- items of one cluster

abbrev AreIn : ℕ → List Item → Type 0
AreIn c [] = Unit {0}
AreIn c (x ∷ xs) = (x.cluster ≡ c) × AreIn c xs

AreIn-append : (c : ℕ) (xs ys : List Item) → AreIn c xs → AreIn c ys → AreIn c (xs ++ ys)
AreIn-append c [] ys here later = later
AreIn-append c (x ∷ xs) ys here later = (here.0, AreIn-append c xs ys here.1 later)

-- the items from one place up to another are in a cluster
abbrev AreInSpan : ℕ → ℕ → ℕ → List Item → Type 0
AreInSpan c start end xs = (k : ℕ) → start ≤ k → k < end → k < length xs → cluster_at xs k ≡ c

AreIn-taken : (c n a : ℕ) (xs : List Item) → AreInSpan c a (a + n) xs → AreIn c (take n (drop a xs))
AreIn-taken c zero a xs there = tt
AreIn-taken c (suc n) zero [] there = tt
AreIn-taken c (suc n) (suc a) [] there = tt
AreIn-taken c (suc n) zero (x ∷ xs) there = (
  there 0 (omega arith) (omega arith) (omega arith),
  AreIn-taken c n zero xs (λ k from to inside. there (suc k) (omega arith) (omega (arith, to)) (omega (arith, inside))),
)
AreIn-taken c (suc n) (suc a) (x ∷ xs) there =
    AreIn-taken c (suc n) a xs (λ k from to inside. there (suc k) (omega (arith, from)) (omega (arith, to)) (omega (arith, inside)))

AreIn-slice : (c start end a b : ℕ) (xs : List Item) → AreInSpan c start end xs → start ≤ a → b ≤ end → AreIn c (slice_range xs a b)
AreIn-slice c start end a b xs there from to =
    AreIn-taken c (b - a) a xs (λ k low high inside. there k (omega (arith, from, low)) (omega (arith, to, low, high)) inside)

AreIn-side : (c start end a b : ℕ) (turned : Bool) (xs : List Item) → AreInSpan c start end xs → start ≤ a → b ≤ end
    → (turned ≡ true → a < b) → AreIn c (side_of turned a b xs)
AreIn-side c start end a b true xs there from to some =
    AreIn-append c (slice_range xs (a + 1) b) (slice_range xs a (a + 1))
    (AreIn-slice c start end (a + 1) b xs there (omega (arith, from)) to)
    (AreIn-slice c start end a (a + 1) xs there from (omega (arith, to, some refl)))
AreIn-side c start end a b false xs there from to some = AreIn-slice c start end a b xs there from to

turned_two : (side : Side) → turns side ≡ true → count_of side ≡ 2
turned_two Stays is = absurd (false≢true is)
turned_two One is = absurd (false≢true is)
turned_two Two is = absurd (false≢true is)
turned_two Turned is = refl

AreIn-rearranged : (c : ℕ) (left right : Side) (start end : ℕ) (xs : List Item) → AreInSpan c start end xs
    → count_of left + count_of right ≤ end - start → start < end → AreIn c (rearranged left right start end xs)
AreIn-rearranged c left right start end xs there fits some =
    let from : ℕ = start + count_of left in
    let to : ℕ = end - count_of right in
    AreIn-append c (side_of (turns right) to end xs) (slice_range xs from to ++ side_of (turns left) start from xs)
    (AreIn-side c start end to end (turns right) xs there (omega (arith, fits, some)) (omega arith)
    (λ is. omega (arith, fits, some, turned_two right is)))
    (AreIn-append c (slice_range xs from to) (side_of (turns left) start from xs)
    (AreIn-slice c start end from to xs there (omega arith) (omega arith))
    (AreIn-side c start end start from (turns left) xs there (omega arith) (omega (arith, fits, some))
    (λ is. omega (arith, fits, some, turned_two left is))))

-- ---- no more of them than the span has

length-slice : (a b : ℕ) (xs : List Item) → length (slice_range xs a b) ≤ b - a
length-slice a b xs = simp (length-take, length-drop) (omega arith)

length-side : (turned : Bool) (a b : ℕ) (xs : List Item) → (turned ≡ true → a < b) → length (side_of turned a b xs) ≤ b - a
length-side true a b xs some =
    let both : length (side_of true a b xs) ≡ length (slice_range xs (a + 1) b) + length (slice_range xs a (a + 1)) =
    length-append (slice_range xs (a + 1) b) (slice_range xs a (a + 1)) in
    omega (arith, both, length-slice (a + 1) b xs, length-slice a (a + 1) xs, some refl)
length-side false a b xs some = length-slice a b xs

length-rearranged : (left right : Side) (start end : ℕ) (xs : List Item) → count_of left + count_of right ≤ end - start → start < end
    → start + length (rearranged left right start end xs) ≤ end
length-rearranged left right start end xs fits some =
    let from : ℕ = start + count_of left in
    let to : ℕ = end - count_of right in
    let one : List Item = side_of (turns right) to end xs in
    let two : List Item = slice_range xs from to in
    let three : List Item = side_of (turns left) start from xs in
    omega (
      arith,
      fits,
      some,
      length-append one (two ++ three),
      length-append two three,
      length-side (turns right) to end xs (λ is. omega (arith, fits, some, turned_two right is)),
      length-slice from to xs,
      length-side (turns left) start from xs (λ is. omega (arith, fits, some, turned_two left is)),
    )

-- ---- items of a cluster written over others of it

clusters-put : (at : ℕ) (x : Item) (b : Buffer) → at < length b.items → x.cluster ≡ cluster_at b.items at
    → clusters (put_at at x b).items ≡ clusters b.items
clusters-put at x b inside same =
    let there : x.cluster ≡ (item_at b at).cluster = same ∙ get_or-map (λ (y : Item). y.cluster) b.items at (new_item 0 0) 0 inside in
    elim (nat_lt at (length b.items)) as
    (λ t. clusters (if t then record b { items = slice_set b.items at x } else b).items ≡ clusters b.items) [
      | true ↦ map-set_same (λ (y : Item). y.cluster) b.items at x (new_item 0 0) there
      | false ↦ refl
    ]

clusters-written : (c at : ℕ) (xs : List Item) (b : Buffer) → AreIn c xs → at + length xs ≤ length b.items
    → ((k : ℕ) → at ≤ k → k < at + length xs → cluster_at b.items k ≡ c) → clusters (written at xs b).items ≡ clusters b.items
clusters-written c at [] b in_it within there = refl
clusters-written c at (x ∷ xs) b in_it within there =
    let put : Buffer = put_at at x b in
    let same : clusters put.items ≡ clusters b.items =
    clusters-put at x b (omega (arith, within)) (in_it.0 ∙ sym (there at (omega arith) (omega arith))) in
    let longer : length put.items ≡ length b.items = length_put at x b in
    clusters-written c (at + 1) xs put in_it.1 (omega (arith, within, longer))
    (λ k from to. ap (λ (cs : List ℕ). get_or cs k 0) same ∙ there k (omega (arith, from)) (omega (arith, to)))
    ∙ same

put-rest : (t : Bool) (i : ℕ) (y : Item) (b : Buffer) (ys : List Item)
    → record (if t then record b { items = slice_set b.items i y } else b) { items = ys } ≡ record b { items = ys }
put-rest true i y b ys = refl
put-rest false i y b ys = refl

written-rest : (at : ℕ) (xs : List Item) (b : Buffer) → written at xs b ≡ record b { items = (written at xs b).items }
written-rest at [] b = refl
written-rest at (x ∷ xs) b =
    let there : Buffer = written (at + 1) xs (put_at at x b) in
    written-rest (at + 1) xs (put_at at x b) ∙ put-rest (nat_lt at (length b.items)) at x b there.items

-- ---- a span that merges is in one cluster

merged-one : (start end : ℕ) (xs : List Item) → start < end → end ≤ length xs
    → (c : ℕ) × AreInSpan c start end (merge_onwards start end xs)
merged-one start end xs some within = elim (cases_Bool (nat_lt (start + 1) end)) [
  | inl long ↦
      let least : ℕ = least_cluster (slice_range xs start end) in
      let last : end - 1 < length xs = omega (arith, some, within) in
      let total : grown_end start end xs ≤ length xs = omega (arith, growth_right-within xs (end - 1) least last, some) in (
        least,
        λ k from to inside. ap (λ (ys : List Item). cluster_at ys k) (onwards-long start end xs (grind (arith, nat_tests, long)))
            ∙ put_range_inside start (grown_end start end xs) least xs k from total (omega (arith, to)),
      )
  | inr short ↦
      let one : end ≡ start + 1 = grind (arith, nat_tests, short, some) in (
        cluster_at (merge_onwards start end xs) start,
        λ k from to inside. ap (cluster_at (merge_onwards start end xs)) (omega (arith, from, to, one)),
      )
]

-- ---- a verb

moved-preserves : (e : Entry) (marks : Marks) (b : Buffer)
    → (IsMonotoneLevel b.cluster_level → (c : ℕ) × AreInSpan c marks.first marks.end b.items)
    → marks.first < marks.end → marks.end ≤ length b.items
    → count_of (sides_of e).0 + count_of (sides_of e).1 ≤ marks.end - marks.first → Preserves b (moved e marks b)
moved-preserves e marks b one some within fits =
    let xs : List Item = rearranged (sides_of e).0 (sides_of e).1 marks.first marks.end b.items in
    let ys : List Item = (written marks.first xs b).items in
    let few : marks.first + length xs ≤ marks.end =
    length-rearranged (sides_of e).0 (sides_of e).1 marks.first marks.end b.items fits some in
    let flags = PreservesFlags-items b ys (λ flag defined set. elim (written_in (has_flag flag) marks.first xs b set) [
      | inl there ↦ rearranged_in (has_flag flag) (sides_of e).0 (sides_of e).1 marks.first marks.end b.items there
      | inr old ↦ old
    ]) in
    subst (λ c. Preserves b c) (sym (written-rest marks.first xs b)) (record {
      order = λ monotone. let span = one monotone in
          PreservesClusters-equal (clusters b.items) (clusters ys) (clusters-written span.0 marks.first xs b
          (AreIn-rearranged span.0 (sides_of e).0 (sides_of e).1 marks.first marks.end b.items span.1 fits some)
          (omega (arith, few, within))
          (λ k from to. span.1 k from (omega (arith, to, few)) (omega (arith, to, few, within))));
      flags = flags;
      direction = refl;
      level = refl;
      limit = refl;
      left = omega arith;
    })

length-merged : (start end : ℕ) (b : Buffer) → length (merged_onwards start end b).items ≡ length b.items
length-merged start end b = elim (nat_le start end && nat_le end (length b.items)) as
    (λ t. length (if t then onwards start end b else b).items ≡ length b.items) [
      | true ↦ length-onwards start end b
      | false ↦ refl
    ]

done-preserves : (e : Entry) (next : ℕ) (marks : Marks) (b : Buffer) → marks.first < marks.end → marks.end ≤ length b.items
    → count_of (sides_of e).0 + count_of (sides_of e).1 ≤ marks.end - marks.first → Preserves b (done e next marks b)
done-preserves e next marks b some within fits =
    let work : ℕ = next - marks.first in
    let paid : Buffer = charged work b in
    let first : Buffer = merged_onwards marks.first next paid in
    let whole : Buffer = merged_onwards marks.first marks.end first in
    let same : length first.items ≡ length b.items = length-merged marks.first next paid in
    let still : length whole.items ≡ length first.items = length-merged marks.first marks.end first in
    let test : (nat_le marks.first marks.end && nat_le marks.end (length first.items)) ≡ true =
    grind (arith, nat_tests, some, within, same) in
    let is : whole ≡ onwards marks.first marks.end first = rw test refl in
    let keeps : Preserves first whole = Preserves-merged_onwards marks.first marks.end first in
    let one : IsMonotoneLevel whole.cluster_level → (c : ℕ) × AreInSpan c marks.first marks.end whole.items =
    λ monotone. subst (λ (b' : Buffer). (c : ℕ) × AreInSpan c marks.first marks.end b'.items)
    (sym (is ∙ onwards-monotone marks.first marks.end first (subst IsMonotoneLevel keeps.level monotone)))
    (merged-one marks.first marks.end first.items some (omega (arith, within, same))) in
    Preserves-paid (nat_lt b.max_ops work) work b (moved e marks whole)
    (Preserves-then paid first (moved e marks whole) (Preserves-merged_onwards marks.first next paid)
    (Preserves-then first whole (moved e marks whole) keeps
    (moved-preserves e marks whole one some (omega (arith, within, same, still)) fits)))

rearranged-preserves : (e : Entry) (at : ℕ) (marks : Marks) (b : Buffer) → Preserves b (rearranged_at e at marks b)
rearranged-preserves e at marks b =
    let next : ℕ = min (at + 1) (length b.items) in
    Preserves-cases (is_actionable false marks e && is_fitting e marks (length b.items)) b (done e next marks b) b
    (λ test. done-preserves e next marks b (grind (arith, nat_tests, test)) (grind (arith, nat_tests, test)) (grind (arith, nat_tests, test)))
    (λ test. Preserves-same b)

pub rearrangement-preserves : (e : Entry) (s : Spot Marks) → Preserves s.buffer (actions.transition e s).buffer
rearrangement-preserves e s =
    rearranged-preserves e s.at (marks_of e s.at (length s.buffer.items) s.memory) s.buffer
