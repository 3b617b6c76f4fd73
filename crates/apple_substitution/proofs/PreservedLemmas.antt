-- What edits of a list preserve: at the monotone levels the order of clusters, at every level flags; settings stay, and what is left
-- never rises.
use Rattle.std.proofs.Common.{◌≡◌, ℕ, ◌+◌, ◌-◌, ◌<◌, ◌≤◌, ◌&&◌, Bool, true, false, List, drop, map, length, nat_le, nat_lt, take}
use Rattle.std.proofs.Common.{refl, ap, sym, ◌∙◌, subst, inl, inr, arith, bit_and, ◌==◌, if◌then◌else◌, slice_range, slice_set}
use Rattle.std.proofs.lemmas.Bool.{cases_Bool, false≢true}
use Rattle.std.proofs.lemmas.Bool.Decides.{nat_tests}
use Rattle.std.proofs.Math.Seq.{map-set_same}
use Rattle.shape_common.specs.FlagNames.{PRODUCE_UNSAFE_TO_CONCAT}
use Rattle.shape_common.specs.declared.positions.GlyphPosition.{GlyphPosition}
use Rattle.shape_items.specs.Buffer.{Buffer}
use Rattle.shape_items.specs.BufferClusters.{merge_at, merge_clusters, unsafe_to_break, unsafe_to_concat, with_glyph_flags}
use Rattle.shape_items.specs.ClusterOrder.{IsMonotoneLevel, PreservesClusters}
use Rattle.shape_items.specs.Clusters.{clusters, growth_right, least_cluster, map_range, mark_concat, merge}
use Rattle.shape_items.specs.Items.{Item, new_item}
use Rattle.shape_items.specs.PreservesFlags.{has_flag, some_has, IsDefinedFlag, PreservesFlags}
use Rattle.shape_items.proofs.Deletion.DeletePreserves.{merged_preserves}
use Rattle.shape_items.proofs.Flags.FlagLemmas.{append-cases, drop_in, glyph_flags_set, merge_clusters_preserves, take_in, PreservesFlags-items, PreservesFlags-same, PreservesFlags-then, unsafe_to_break_preserves}
use Rattle.shape_items.proofs.Merging.ClusterLemmas.{grown_end, level_cases, merge_clusters-monotone}
use Rattle.shape_items.proofs.Merging.KeyLemmas.{keys-map_range, without_items-merge_clusters, without_items-unsafe_to_break}
use Rattle.shape_items.proofs.Merging.MergeOrder.{growth_right-within, least_of_span_reached, put_range_draws}
use Rattle.shape_items.proofs.Order.DrawsInOrder.{DrawsInOrder, DrawsInOrder-same, PreservesClusters-from_draws}
use Rattle.shape_buffer.specs.Preservation.{PreservesOrder}
use Rattle.shape_buffer.proofs.Steps.PreservationLemmas.{PreservesClusters-same, PreservesClusters-equal, PreservesClusters-then, flags-same_masks, order-unsafe_to_break}
use Rattle.apple_substitution.specs.Edits.{broken, charged, item_at, merge_onwards, merged, merged_onwards, onwards, put_at}
use Rattle.apple_substitution.proofs.OnwardsLemmas.{marked_onwards, onwards-long, onwards-monotone, onwards-short}

pub record Preserves (b c : Buffer) : Type 0 where
  pub order : IsMonotoneLevel b.cluster_level → PreservesClusters (clusters b.items) (clusters c.items)
  pub flags : PreservesFlags b c
  pub direction : c.direction ≡ b.direction
  pub level : c.cluster_level ≡ b.cluster_level
  pub limit : c.length_limit ≡ b.length_limit
  pub left : c.max_ops ≤ b.max_ops

pub Preserves-same : (b : Buffer) → Preserves b b
Preserves-same b = record {
  order = λ monotone. PreservesClusters-same (clusters b.items);
  flags = PreservesFlags-same b;
  direction = refl;
  level = refl;
  limit = refl;
  left = omega arith;
}

pub Preserves-then : (a b c : Buffer) → Preserves a b → Preserves b c → Preserves a c
Preserves-then a b c first later = record {
  order = λ monotone. PreservesClusters-then (clusters a.items) (clusters b.items) (clusters c.items) (first.order monotone)
      (later.order (subst IsMonotoneLevel (sym first.level) monotone));
  flags = PreservesFlags-then a b c first.flags later.flags;
  direction = later.direction ∙ first.direction;
  level = later.level ∙ first.level;
  limit = later.limit ∙ first.limit;
  left = omega (arith, first.left, later.left);
}

pub Preserves-if : (t : Bool) (a b c : Buffer) → Preserves a b → Preserves a c → Preserves a (if t then b else c)
Preserves-if true a b c x y = x
Preserves-if false a b c x y = y

-- each case by the test that leads to it
pub Preserves-cases : (t : Bool) (a b c : Buffer) → (t ≡ true → Preserves a b) → (t ≡ false → Preserves a c)
    → Preserves a (if t then b else c)
Preserves-cases true a b c x y = x refl
Preserves-cases false a b c x y = y refl

-- ---- what is preserved of a step of a run

pub Preserves-order : (b c : Buffer) → Preserves b c → IsMonotoneLevel b.cluster_level → PreservesOrder b c
Preserves-order b c keeps monotone = record {
  clusters = keeps.order monotone;
  direction = keeps.direction;
  flags = keeps.flags.flags;
  level = keeps.level;
}

-- ---- what is left falls

pub Preserves-charged : (work : ℕ) (b : Buffer) → Preserves b (charged work b)
Preserves-charged work b = record {
  order = λ monotone. PreservesClusters-same (clusters b.items);
  flags = record { flags = refl; stays_set = λ set. set; none_new = λ flag defined some. inl some };
  direction = refl;
  level = refl;
  limit = refl;
  left = omega arith;
}

-- a deed that is charged for, and left if what is left doesn't suffice
pub Preserves-paid : (t : Bool) (work : ℕ) (b c : Buffer) → Preserves (charged work b) c
    → Preserves b (if t then charged work b else c)
Preserves-paid t work b c keeps =
    Preserves-if t b (charged work b) c (Preserves-charged work b) (Preserves-then b (charged work b) c (Preserves-charged work b) keeps)

-- ---- other items, in the same clusters and with the same masks

pub Preserves-alike : (b : Buffer) (ys : List Item) (ps : List GlyphPosition) → clusters ys ≡ clusters b.items
    → map (λ (x : Item). x.mask) ys ≡ map (λ (x : Item). x.mask) b.items → Preserves b (record b { items = ys; positions = ps })
Preserves-alike b ys ps same masks =
    let flags : PreservesFlags b (record b { items = ys }) = flags-same_masks b ys masks in
    record {
      order = λ monotone. PreservesClusters-equal (clusters b.items) (clusters ys) same;
      flags = record { flags = refl; stays_set = flags.stays_set; none_new = flags.none_new };
      direction = refl;
      level = refl;
      limit = refl;
      left = omega arith;
    }

pub record IsLike (x y : Item) : Type 0 where
  pub cluster : y.cluster ≡ x.cluster
  pub mask : y.mask ≡ x.mask

pub IsLike-same : (x : Item) → IsLike x x
IsLike-same x = record { cluster = refl; mask = refl }

pub Preserves-put : (i : ℕ) (item : Item) (b : Buffer) → IsLike (item_at b i) item → Preserves b (put_at i item b)
Preserves-put i item b like =
    Preserves-if (nat_lt i (length b.items)) b (record b { items = slice_set b.items i item }) b
    (Preserves-alike b (slice_set b.items i item) b.positions
    (map-set_same (λ (x : Item). x.cluster) b.items i item (new_item 0 0) like.cluster)
    (map-set_same (λ (x : Item). x.mask) b.items i item (new_item 0 0) like.mask))
    (Preserves-same b)

-- ---- spans merged, and marked unsafe to break

merge-preserves : (start end : ℕ) (b : Buffer) → end ≤ length b.items → Preserves b (merge_clusters start end b)
merge-preserves start end b within =
    let rest = without_items-merge_clusters start end b in
    let keeps = merged_preserves start end b (merge_clusters start end b) within refl in
    record {
      order = λ monotone. keeps.0;
      flags = keeps.1;
      direction = ap (λ (c : Buffer). c.direction) rest;
      level = ap (λ (c : Buffer). c.cluster_level) rest;
      limit = ap (λ (c : Buffer). c.length_limit) rest;
      left = omega (arith, ap (λ (c : Buffer). c.max_ops) rest);
    }

pub Preserves-merged : (start end : ℕ) (b : Buffer) → Preserves b (merged start end b)
Preserves-merged start end b =
    Preserves-cases (nat_le start end && nat_le end (length b.items)) b (merge_clusters start end b) b
    (λ test. merge-preserves start end b (grind (arith, nat_tests, test))) (λ test. Preserves-same b)

-- a span is merged into the cluster of one of its items
onwards-draws : (start end : ℕ) (xs : List Item) → end ≤ length xs → DrawsInOrder (clusters xs) (clusters (merge_onwards start end xs))
onwards-draws start end xs within = elim (cases_Bool (nat_lt (start + 1) end)) [
  | inl long ↦
      let some : start + 1 < end = grind (arith, nat_tests, long) in
      let least : ℕ = least_cluster (slice_range xs start end) in
      let reached = least_of_span_reached start end xs (omega (arith, some)) within in
      let right : end - 1 + growth_right xs (end - 1) least < length xs =
      growth_right-within xs (end - 1) least (omega (arith, some, within)) in
      rw (onwards-long start end xs some)
      (put_range_draws start (grown_end start end xs) least xs reached.0 reached.1 (omega (arith, reached.2)) (omega (arith, reached.2, within))
      (omega (arith, right, some)) reached.3)
  | inr short ↦ rw (onwards-short start end xs (grind (arith, nat_tests, short))) (DrawsInOrder-same (clusters xs))
]

onwards-brings_none : (start end flag : ℕ) → IsDefinedFlag flag → (b : Buffer) → IsMonotoneLevel b.cluster_level
    → some_has flag (merge_onwards start end b.items) ≡ true → some_has flag b.items ≡ true
onwards-brings_none start end flag defined b monotone some =
    let rest : Buffer = record b { items = drop start b.items; scratch_flags = record { 0 = 0 } } in
    let is : merge_clusters 0 (end - start) rest ≡ merge_at 0 (end - start) rest = merge_clusters-monotone 0 (end - start) rest monotone in
    let keeps : PreservesFlags rest (merge_at 0 (end - start) rest) =
    subst (PreservesFlags rest) is (merge_clusters_preserves 0 (end - start) rest) in
    elim (append-cases (has_flag flag) (take start b.items) (merge 0 (end - start) (drop start b.items)) some) [
      | inl before ↦ take_in (has_flag flag) start b.items before
      | inr later ↦ elim (keeps.none_new flag defined later) [
        | inl there ↦ drop_in (has_flag flag) start b.items there
        | inr set ↦ absurd (false≢true set)
      ]
    ]

onwards-preserves : (start end : ℕ) (b : Buffer) → end ≤ length b.items → Preserves b (onwards start end b)
onwards-preserves start end b within = elim (level_cases b.cluster_level) [
  | inl monotone ↦ rw (onwards-monotone start end b monotone) (record {
    order = λ level. PreservesClusters-from_draws (clusters b.items) (clusters (merge_onwards start end b.items))
        (onwards-draws start end b.items within);
    flags = PreservesFlags-items b (merge_onwards start end b.items)
        (λ flag defined some. onwards-brings_none start end flag defined b monotone some);
    direction = refl;
    level = refl;
    limit = refl;
    left = omega arith;
  })
  | inr is ↦ subst (Preserves b) (marked_onwards start end b is) (merge-preserves start end b within)
]

pub Preserves-merged_onwards : (start end : ℕ) (b : Buffer) → Preserves b (merged_onwards start end b)
Preserves-merged_onwards start end b =
    Preserves-cases (nat_le start end && nat_le end (length b.items)) b (onwards start end b) b
    (λ test. onwards-preserves start end b (grind (arith, nat_tests, test))) (λ test. Preserves-same b)

break-preserves : (start end : ℕ) (b : Buffer) → Preserves b (unsafe_to_break start end b)
break-preserves start end b =
    let rest = without_items-unsafe_to_break start end b in
    let order = order-unsafe_to_break start end b in
    record {
      order = λ monotone. order.clusters;
      flags = unsafe_to_break_preserves start end b;
      direction = order.direction;
      level = order.level;
      limit = ap (λ (c : Buffer). c.length_limit) rest;
      left = omega (arith, ap (λ (c : Buffer). c.max_ops) rest);
    }

pub Preserves-broken : (start end : ℕ) (b : Buffer) → Preserves b (broken start end b)
Preserves-broken start end b =
    Preserves-if (nat_le start end && nat_le end (length b.items)) b (unsafe_to_break start end b) b
    (break-preserves start end b) (Preserves-same b)

-- ---- a span marked unsafe to concat

concat-preserves : (start end : ℕ) (b : Buffer) → start ≤ end
    → Preserves b (record (with_glyph_flags b) { items = map_range mark_concat start end b.items })
concat-preserves start end b ordered =
    let marked : List Item = map_range mark_concat start end b.items in
    let same : clusters marked ≡ clusters b.items = keys-map_range (λ (x : Item). x.cluster) mark_concat (λ x. refl) start end b.items ordered in
    record {
      order = λ monotone. PreservesClusters-equal (clusters b.items) (clusters marked) same;
      flags = record { flags = refl; stays_set = λ set. glyph_flags_set b; none_new = λ flag defined some. inr (glyph_flags_set b) };
      direction = refl;
      level = refl;
      limit = refl;
      left = omega arith;
    }

pub Preserves-concat : (start end : ℕ) (b : Buffer) → start ≤ end → Preserves b (unsafe_to_concat start end b)
Preserves-concat start end b ordered =
    Preserves-if (bit_and b.flags.0 PRODUCE_UNSAFE_TO_CONCAT == PRODUCE_UNSAFE_TO_CONCAT) b
    (record (with_glyph_flags b) { items = map_range mark_concat start end b.items }) b (concat-preserves start end b ordered)
    (Preserves-same b)
