-- A span merged with what follows it: it is one part of the list, and what stands before it stays.
use Prim.Native.Nat.{zero}
use Rattle.std.proofs.Common.{◌≡◌, ◌≢◌, ℕ, suc, ◌+◌, ◌-◌, ◌<◌, ◌≤◌, ◌==◌, true, false, List, [], ◌∷◌, ◌++◌, drop, length, map, nat_lt, take}
use Rattle.std.proofs.Common.{refl, ap, sym, ◌∙◌, subst, inl, inr, arith, get_or, slice_index, slice_range, slice_set, if◌then◌else◌}
use Rattle.std.proofs.lemmas.Bool.{cases_Bool}
use Rattle.std.proofs.lemmas.Bool.Decides.{nat_tests}
use Rattle.std.proofs.lemmas.List.{drop-drop, drop-map, drop-set-lt, get_or-drop, get_or-map, get_or-set_other, get_or-set_same, length-append, length-set, length-take-le, map-set, set-append_left, take-append-drop}
use Rattle.std.proofs.lemmas.List.Sums.{suffix_len-take_no}
use Rattle.std.specs.List.{suffix_len}
use Rattle.std.proofs.Math.Seq.{take-set-lt}
use Rattle.shape_common.specs.declared.text_types.BufferClusterLevel.{BufferClusterLevel}
use Rattle.shape_common.specs.declared.text_types.BufferClusterLevel.TheVariants.{MonotoneGraphemes, MonotoneCharacters, Characters}
use Rattle.shape_items.specs.Buffer.{Buffer}
use Rattle.shape_items.specs.BufferClusters.{merge_clusters, unsafe_to_break}
use Rattle.shape_items.specs.ClusterOrder.{IsMonotoneLevel}
use Rattle.shape_items.specs.Clusters.{clusters, growth_left, growth_right, least_cluster, map_range, merge, put_range}
use Rattle.shape_items.specs.Items.{Item, has_cluster, put_in}
use Rattle.shape_items.proofs.Merging.ClusterLemmas.{grown_end, level_cases, merge_clusters-monotone, merge_long, merge_short}
use Rattle.shape_items.proofs.Merging.JoinLemmas.{cluster_at}
use Rattle.shape_items.proofs.Merging.KeyLemmas.{length-merge, length-merge_clusters}
use Rattle.apple_substitution.specs.Edits.{merge_onwards, onwards}

-- ---- what is merged

less_none : (n : ℕ) → n - 0 ≡ n
less_none n = omega arith

map_range-behind : (f : Item → Item) (start n : ℕ) (xs : List Item)
    → take start xs ++ map_range f 0 n (drop start xs) ≡ map_range f start (start + n) xs
map_range-behind f start n xs =
    let count : start + n - start ≡ n = omega arith in
    rw (count, less_none n, drop-drop n start xs) refl

growth-behind : (start end least : ℕ) (xs : List Item) → start < end
    → growth_right (drop start xs) (end - start - 1) least ≡ growth_right xs (end - 1) least
growth-behind start end least xs some =
    let place : start + (end - start - 1) ≡ end - 1 = omega (arith, some) in
    let next : start + (end - start - 1 + 1) ≡ end - 1 + 1 = omega (arith, some) in
    let read : slice_index (clusters (drop start xs)) (end - start - 1) ≡ slice_index (clusters xs) (end - 1) =
    ap (λ (cs : List ℕ). get_or cs (end - start - 1) 0) (sym (drop-map (λ (x : Item). x.cluster) start xs))
    ∙ get_or-drop start (clusters xs) (end - start - 1) 0 ∙ ap (λ k. get_or (clusters xs) k 0) place in
    let after : drop (end - start - 1 + 1) (drop start xs) ≡ drop (end - 1 + 1) xs =
    drop-drop (end - start - 1 + 1) start xs ∙ ap (λ k. drop k xs) next in
    rw (read, after) refl

pub onwards-long : (start end : ℕ) (xs : List Item) → start + 1 < end
    → merge_onwards start end xs ≡ put_range start (grown_end start end xs) (least_cluster (slice_range xs start end)) xs
onwards-long start end xs some =
    let least : ℕ = least_cluster (slice_range xs start end) in
    let long : nat_lt (0 + 1) (end - start) ≡ true = grind (arith, nat_tests, some) in
    let none : 0 - growth_left (drop start xs) 0 least ≡ 0 = omega arith in
    let sum : start + (end - start + growth_right xs (end - 1) least) ≡ end + growth_right xs (end - 1) least = omega (arith, some) in
    let span : slice_range (drop start xs) 0 (end - start) ≡ slice_range xs start end =
    ap (λ n. take n (drop start xs)) (less_none (end - start)) in
    rw (merge_long 0 (end - start) (drop start xs) long, span, none, growth-behind start end least xs (omega (arith, some)))
    (map_range-behind (put_in least) start (end - start + growth_right xs (end - 1) least) xs
    ∙ ap (λ to. put_range start to least xs) sum)

pub onwards-short : (start end : ℕ) (xs : List Item) → end ≤ start + 1 → merge_onwards start end xs ≡ xs
onwards-short start end xs few =
    let short : nat_lt (0 + 1) (end - start) ≡ false = grind (arith, nat_tests, few) in
    ap (λ (ys : List Item). take start xs ++ ys) (merge_short 0 (end - start) (drop start xs) short) ∙ take-append-drop start xs

pub onwards-monotone : (start end : ℕ) (b : Buffer) → IsMonotoneLevel b.cluster_level
    → onwards start end b ≡ record b { items = merge_onwards start end b.items }
onwards-monotone start end b = at_level b.cluster_level
  where
    at_level : (level : BufferClusterLevel) → IsMonotoneLevel level → (elim level as (λ v. Buffer) [
      | MonotoneGraphemes ↦ record b { items = merge_onwards start end b.items }
      | MonotoneCharacters ↦ record b { items = merge_onwards start end b.items }
      | Characters ↦ unsafe_to_break start end b
    ]) ≡ record b { items = merge_onwards start end b.items }
    at_level MonotoneGraphemes monotone = refl
    at_level MonotoneCharacters monotone = refl
    at_level Characters monotone = absurd monotone

-- ---- the item before the span put apart meanwhile

set_back : (i : ℕ) (xs : List Item) (x d : Item) → slice_set (slice_set xs i x) i (get_or xs i d) ≡ xs
set_back i [] x d = refl
set_back zero (y ∷ xs) x d = refl
set_back (suc i) (y ∷ xs) x d = ap (λ (ys : List Item). y ∷ ys) (set_back i xs x d)

-- it comes back to what it was when what stands behind it was mapped
back-behind : (f : Item → Item) (n i to : ℕ) (xs : List Item) (x d : Item) → i < n → i < to → n ≤ length xs
    → slice_set (map_range f n to (slice_set xs i x)) i (get_or xs i d) ≡ map_range f n to xs
back-behind f n i to xs x d before inside fits =
    let y : Item = get_or xs i d in
    let put : List Item = slice_set xs i x in
    let rest : List Item = map f (slice_range xs n to) ++ drop to xs in
    let count : length (take n put) ≡ n = length-take-le n put (omega (arith, fits, length-set xs i x)) in
    let back : slice_set (take n put) i y ≡ take n xs = sym (take-set-lt n put i y before) ∙ ap (take n) (set_back i xs x d) in
    rw (drop-set-lt n xs i x before, drop-set-lt to xs i x inside)
    (set-append_left (take n put) rest i y (omega (arith, count, before)) ∙ ap (λ (zs : List Item). zs ++ rest) back)

-- what stands before the span is in another cluster than its first item
none_before : (start least : ℕ) (xs : List Item) (x : Item) → 0 < start → start < length xs → x.cluster ≢ cluster_at xs start
    → growth_left (slice_set xs (start - 1) x) start least ≡ 0
none_before start least xs x behind inside apart =
    let put : List Item = slice_set xs (start - 1) x in
    let first : ℕ = slice_index (clusters put) start in
    let longer : length put ≡ length xs = length-set xs (start - 1) x in
    let same : first ≡ cluster_at xs start =
    ap (λ (cs : List ℕ). get_or cs start 0) (map-set (λ (y : Item). y.cluster) xs (start - 1) x)
    ∙ get_or-set_other (clusters xs) (start - 1) start x.cluster 0 (λ is. omega (arith, behind, is)) in
    let there : get_or put (start - 1) x ≡ x = get_or-set_same xs (start - 1) x x (omega (arith, inside)) in
    let not_first : has_cluster first (get_or put (start - 1) x) ≡ false = rw (there, same) (grind (arith, nat_tests, apart)) in
    let none : suffix_len (has_cluster first) (take start put) ≡ 0 =
    suffix_len-take_no (has_cluster first) put start x behind (omega (arith, inside, longer)) not_first in
    elim (first == least) as (λ t. (if t then 0 else suffix_len (has_cluster first) (take start put)) ≡ 0) [
      | true ↦ refl
      | false ↦ none
    ]

-- the span is merged as if the list began with it
items-apart : (start end : ℕ) (xs : List Item) (x d : Item) → 0 < start → start ≤ end → end ≤ length xs
    → x.cluster ≢ (get_or xs start d).cluster
    → slice_set (merge start end (slice_set xs (start - 1) x)) (start - 1) (get_or xs (start - 1) d) ≡ merge_onwards start end xs
items-apart start end xs x d behind ordered within apart = elim (cases_Bool (nat_lt (start + 1) end)) [
  | inl long ↦
      let put : List Item = slice_set xs (start - 1) x in
      let some : start + 1 < end = grind (arith, nat_tests, long) in
      let least : ℕ = least_cluster (slice_range xs start end) in
      let first : cluster_at xs start ≡ (get_or xs start d).cluster =
      get_or-map (λ (y : Item). y.cluster) xs start d 0 (omega (arith, some, within)) in
      let none : growth_left put start least ≡ 0 =
      none_before start least xs x behind (omega (arith, some, within)) (λ is. apart (is ∙ first)) in
      let span : slice_range put start end ≡ slice_range xs start end =
      ap (take (end - start)) (drop-set-lt start xs (start - 1) x (omega (arith, behind))) in
      let read : slice_index (clusters put) (end - 1) ≡ slice_index (clusters xs) (end - 1) =
      ap (λ (cs : List ℕ). get_or cs (end - 1) 0) (map-set (λ (y : Item). y.cluster) xs (start - 1) x)
      ∙ get_or-set_other (clusters xs) (start - 1) (end - 1) x.cluster 0 (λ is. omega (arith, some, behind, is)) in
      let after : drop (end - 1 + 1) put ≡ drop (end - 1 + 1) xs = drop-set-lt (end - 1 + 1) xs (start - 1) x (omega (arith, some)) in
      let right : growth_right put (end - 1) least ≡ growth_right xs (end - 1) least = rw (read, after) refl in
      rw (merge_long start end put long, span, none, right, less_none start)
      (back-behind (put_in least) start (start - 1) (end + growth_right xs (end - 1) least) xs x d (omega (arith, behind))
      (omega (arith, some)) (omega (arith, some, within))
      ∙ sym (onwards-long start end xs some))
  | inr short ↦
      rw (merge_short start end (slice_set xs (start - 1) x) short)
      (set_back (start - 1) xs x d ∙ sym (onwards-short start end xs (grind (arith, nat_tests, short))))
]

pub merged_apart : (start end : ℕ) (b c : Buffer) (x d : Item) → 0 < start → start ≤ end → end ≤ length b.items
    → IsMonotoneLevel b.cluster_level → x.cluster ≢ (get_or b.items start d).cluster
    → c ≡ merge_clusters start end (record b { items = slice_set b.items (start - 1) x })
    → record c { items = slice_set c.items (start - 1) (get_or b.items (start - 1) d) } ≡ onwards start end b
merged_apart start end b c x d behind ordered within monotone apart is =
    let put : Buffer = record b { items = slice_set b.items (start - 1) x } in
    ap (λ (a : Buffer). record a { items = slice_set a.items (start - 1) (get_or b.items (start - 1) d) })
    (is ∙ merge_clusters-monotone start end put monotone)
    ∙ ap (λ (ys : List Item). record b { items = ys }) (items-apart start end b.items x d behind ordered within apart)
    ∙ sym (onwards-monotone start end b monotone)

-- nothing stands before the span
pub merged_first : (end : ℕ) (b : Buffer) → merge_clusters 0 end b ≡ onwards 0 end b
merged_first end b = at_level b.cluster_level
  where
    first : merge 0 end b.items ≡ merge_onwards 0 end b.items
    first = ap (λ n. merge 0 n b.items) (sym (less_none end))

    at_level : (level : BufferClusterLevel) → ◌≡◌ {A = Buffer} (elim level as (λ v. Buffer) [
      | MonotoneGraphemes ↦ record b { items = merge 0 end b.items }
      | MonotoneCharacters ↦ record b { items = merge 0 end b.items }
      | Characters ↦ unsafe_to_break 0 end b
    ]) (elim level as (λ v. Buffer) [
      | MonotoneGraphemes ↦ record b { items = merge_onwards 0 end b.items }
      | MonotoneCharacters ↦ record b { items = merge_onwards 0 end b.items }
      | Characters ↦ unsafe_to_break 0 end b
    ])
    at_level MonotoneGraphemes = ap (λ (ys : List Item). record b { items = ys }) first
    at_level MonotoneCharacters = ap (λ (ys : List Item). record b { items = ys }) first
    at_level Characters = refl

pub marked_onwards : (start end : ℕ) (b : Buffer) → b.cluster_level ≡ Characters → merge_clusters start end b ≡ onwards start end b
marked_onwards start end b is = rw is refl

length-merge_onwards : (start end : ℕ) (xs : List Item) → length (merge_onwards start end xs) ≡ length xs
length-merge_onwards start end xs =
    length-append (take start xs) (merge 0 (end - start) (drop start xs))
    ∙ ap (λ n. length (take start xs) + n) (length-merge 0 (end - start) (drop start xs))
    ∙ sym (length-append (take start xs) (drop start xs)) ∙ ap length (take-append-drop start xs)

pub length-onwards : (start end : ℕ) (b : Buffer) → length (onwards start end b).items ≡ length b.items
length-onwards start end b = elim (level_cases b.cluster_level) [
  | inl monotone ↦ rw (onwards-monotone start end b monotone) (length-merge_onwards start end b.items)
  | inr is ↦ subst (λ (c : Buffer). length c.items ≡ length b.items) (marked_onwards start end b is) (length-merge_clusters start end b)
]
