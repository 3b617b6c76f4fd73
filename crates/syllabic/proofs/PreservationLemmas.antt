-- What walks over syllables preserve: the order of clusters, the flags of glyphs, and the number of items.
use Rattle.std.proofs.Common.{◌≡◌, ◌≢◌, ℕ, zero, suc, ◌+◌, ◌-◌, ◌<◌, ◌≤◌, ◌||◌, true, false, if◌then◌else◌, List, [], ◌∷◌, length, map, set, drop, get_or, refl, ap, sym, subst, ◌∙◌, inl, arith}
use Rattle.std.proofs.Math.Seq.{map-set_same}
use Rattle.std.proofs.lemmas.List.{get_or-map, get_or-set_other, length-drop, length-set, length-map}
use Rattle.std.proofs.lemmas.List.Edits.{swap_is, length-swap}
use Rattle.std.proofs.lemmas.List.Sorted.{IsPermutation-swap, list_any-IsPermutation}
use Rattle.std.proofs.lemmas.List.Sums.{prefix_len-le-length}
use Rattle.std.specs.List.{swap, list_any}
use Rattle.shape_items.specs.Buffer.{Buffer}
use Rattle.shape_items.specs.BufferClusters.{merge_clusters, unsafe_to_break}
use Rattle.shape_items.specs.Clusters.{clusters, merge}
use Rattle.shape_items.specs.ClusterOrder.{IsMonotoneLevel}
use Rattle.shape_items.specs.Items.{Item, new_item}
use Rattle.shape_items.specs.PreservesFlags.{PreservesFlags, IsDefinedFlag, has_flag, some_has}
use Rattle.shape_items.proofs.Deletion.DeletePreserves.{merged_preserves}
use Rattle.shape_items.proofs.Flags.FlagLemmas.{PreservesFlags-same, PreservesFlags-then, PreservesFlags-items, unsafe_to_break_preserves}
use Rattle.shape_items.proofs.Merging.ClusterLemmas.{merge_clusters-monotone}
use Rattle.shape_items.proofs.Merging.JoinLemmas.{cluster_at, merge_joins}
use Rattle.shape_items.proofs.Merging.KeyLemmas.{length-merge_clusters, length-unsafe_to_break, without_items-merge_clusters}
use Rattle.shape_items.proofs.Order.DrawsInOrder.{DrawsInOrder, PreservesClusters-from_draws}
use Rattle.shape_buffer.specs.Preservation.{PreservesOrder}
use Rattle.shape_buffer.specs.Walks.{items_mapped}
use Rattle.shape_buffer.proofs.Steps.PreservationLemmas.{PreservesOrder-same, PreservesOrder-then, PreservesClusters-equal, order-unsafe_to_break, order-items_mapped, flags-items_mapped}
use Rattle.syllabic.specs.Moving.{exchanged, stepped_before, stepped_after, brought_before, sent_after}
use Rattle.syllabic.specs.Walking.{item_at, begins_at, end_of, count_in, syllable_of, is_in, at_syllable, to_syllable, each_syllable, OfSyllable, marked}
use Rattle.syllabic.specs.Constraints.{with_items}
use Rattle.syllabic.proofs.MovingLemmas.{length-stepped_before, length-stepped_after}

-- order at the monotone levels, flags and the number of items are kept
pub record Keeps (b c : Buffer) : Type 0 where
  pub order : IsMonotoneLevel b.cluster_level → PreservesOrder b c
  pub flags : PreservesFlags b c
  pub count : length c.items ≡ length b.items

pub Keeps-same : (b : Buffer) → Keeps b b
Keeps-same b = record { order = λ monotone. PreservesOrder-same b; flags = PreservesFlags-same b; count = refl }

pub Keeps-then : (a b c : Buffer) → Keeps a b → Keeps b c → Keeps a c
Keeps-then a b c first later = record {
  order = λ monotone.
      let one = first.order monotone in
      PreservesOrder-then a b c one (later.order (subst IsMonotoneLevel (sym one.level) monotone));
  flags = PreservesFlags-then a b c first.flags later.flags;
  count = later.count ∙ first.count;
}

-- ---- items in place

-- whether some item has a flag depends on the flags of each
any-flags : (flag : ℕ) (xs : List Item) → some_has flag xs ≡ list_any (λ t. t) (map (has_flag flag) xs)
any-flags flag [] = refl
any-flags flag (x ∷ xs) = ap (λ t. has_flag flag x || t) (any-flags flag xs)

-- items with the clusters and flags of others
pub Keeps-items : (b : Buffer) (ys : List Item) → clusters ys ≡ clusters b.items
    → ((flag : ℕ) → IsDefinedFlag flag → map (has_flag flag) ys ≡ map (has_flag flag) b.items) → length ys ≡ length b.items
    → Keeps b (record b { items = ys })
Keeps-items b ys same flags count = record {
  order = λ monotone. record {
    clusters = PreservesClusters-equal (clusters b.items) (clusters ys) same;
    direction = refl;
    flags = refl;
    level = refl;
  };
  flags = PreservesFlags-items b ys (λ flag defined some.
      any-flags flag b.items ∙ ap (list_any (λ t. t)) (sym (flags flag defined)) ∙ sym (any-flags flag ys) ∙ some);
  count = count;
}

-- a function of items that leaves clusters and flags
pub record LeavesBoth (f : Item → Item) : Type 0 where
  pub cluster : (x : Item) → (f x).cluster ≡ x.cluster
  pub flags : (flag : ℕ) → IsDefinedFlag flag → (x : Item) → has_flag flag (f x) ≡ has_flag flag x

-- put in place of one item
pub Keeps-set : (f : Item → Item) → LeavesBoth f → (i : ℕ) (b : Buffer)
    → Keeps b (record b { items = set b.items i (f (item_at b.items i)) })
Keeps-set f leaves i b =
    let x = item_at b.items i in
    Keeps-items b (set b.items i (f x)) (map-set_same (λ (y : Item). y.cluster) b.items i (f x) (new_item 0 0) (leaves.cluster x))
    (λ flag defined. map-set_same (has_flag flag) b.items i (f x) (new_item 0 0) (leaves.flags flag defined x))
    (length-set b.items i (f x))

pub leaves-same_mask : (f : Item → Item) → ((x : Item) → (f x).cluster ≡ x.cluster) → ((x : Item) → (f x).mask ≡ x.mask) → LeavesBoth f
leaves-same_mask f cluster mask = record { cluster = cluster; flags = λ flag defined x. rw (mask x) refl }

-- ---- marking

pub Keeps-unsafe_to_break : (start end : ℕ) (b : Buffer) → Keeps b (unsafe_to_break start end b)
Keeps-unsafe_to_break start end b = record {
  order = λ monotone. order-unsafe_to_break start end b;
  flags = unsafe_to_break_preserves start end b;
  count = length-unsafe_to_break start end b;
}

-- ---- merging and moving

pub Keeps-merge : (start end : ℕ) (b : Buffer) → end ≤ length b.items → Keeps b (merge_clusters start end b)
Keeps-merge start end b within =
    let rest = without_items-merge_clusters start end b in
    let preserves = merged_preserves start end b (merge_clusters start end b) within refl in
    record {
      order = λ monotone. record {
        clusters = preserves.0;
        direction = ap (λ (c : Buffer). c.direction) rest;
        flags = ap (λ (c : Buffer). c.flags) rest;
        level = ap (λ (c : Buffer). c.cluster_level) rest;
      };
      flags = preserves.1;
      count = length-merge_clusters start end b;
    }

-- neighbours between two places share a cluster
abbrev pub AreJoined : (from to : ℕ) → List ℕ → Type 0
AreJoined from to cs = (k : ℕ) → from ≤ k → k + 1 < to → get_or cs k 0 ≡ get_or cs (k + 1) 0

-- items that share a cluster are exchanged, and the list of clusters stays
clusters_swapped : (xs : List Item) (i j : ℕ) → i < length xs → j < length xs → j ≢ i → cluster_at xs i ≡ cluster_at xs j
    → clusters (swap xs i j) ≡ clusters xs
clusters_swapped xs i j first second apart joined =
    let d = new_item 0 0 in
    let key : Item → ℕ = λ x. x.cluster in
    let a = get_or xs i d in
    let b = get_or xs j d in
    let same : key a ≡ key b = sym (get_or-map key xs i d 0 first) ∙ joined ∙ get_or-map key xs j d 0 second in
    let inner : map key (set xs i b) ≡ map key xs = map-set_same key xs i b d (sym same) in
    let other : get_or (set xs i b) j d ≡ b = get_or-set_other xs i j b d apart in
    let outer : map key (set (set xs i b) j a) ≡ map key (set xs i b) = map-set_same key (set xs i b) j a d (same ∙ ap key (sym other)) in
    ap (map key) (sym (swap_is xs i j d first second)) ∙ outer ∙ inner

-- an exchange brings no flag
flags-exchanged : (i j : ℕ) (b : Buffer) → i < length b.items → j < length b.items → PreservesFlags b (exchanged i j b)
flags-exchanged i j b first second =
    PreservesFlags-items b (swap b.items i j) (λ flag d some. list_any-IsPermutation (has_flag flag) b.items (swap b.items i j)
    (IsPermutation-swap b.items (swap b.items i j) i j first second refl) ∙ some)

-- an exchange of neighbours that share a cluster at the monotone levels
abbrev pub JoinedIf : (from to : ℕ) → Buffer → Type 0
JoinedIf from to b = IsMonotoneLevel b.cluster_level → AreJoined from to (clusters b.items)

Keeps-exchanged : (from to k : ℕ) (b : Buffer) → from ≤ k → suc k < to → to ≤ length b.items → JoinedIf from to b
    → Keeps b (exchanged k (suc k) b)
Keeps-exchanged from to k b low high within joined =
    let next : k + 1 ≡ suc k = omega arith in
    record {
      order = λ monotone.
          let shared = joined monotone k low (omega (arith, high)) ∙ ap (λ n. get_or (clusters b.items) n 0) next in
          record {
            clusters = PreservesClusters-equal (clusters b.items) (clusters (swap b.items k (suc k)))
                (clusters_swapped b.items k (suc k) (omega (arith, high, within)) (omega (arith, high, within)) (λ e. absurd (omega (arith, e))) shared);
            direction = refl;
            flags = refl;
            level = refl;
          };
      flags = flags-exchanged k (suc k) b (omega (arith, high, within)) (omega (arith, high, within));
      count = length-swap b.items k (suc k);
    }

-- and the rest is joined as before
joined-exchanged : (from to k : ℕ) (b : Buffer) → from ≤ k → suc k < to → to ≤ length b.items → JoinedIf from to b
    → JoinedIf from to (exchanged k (suc k) b)
joined-exchanged from to k b low high within joined = λ monotone.
    let next : k + 1 ≡ suc k = omega arith in
    let shared = joined monotone k low (omega (arith, high)) ∙ ap (λ n. get_or (clusters b.items) n 0) next in
    let same : clusters (swap b.items k (suc k)) ≡ clusters b.items = clusters_swapped b.items k (suc k) (omega (arith, high, within))
    (omega (arith, high, within)) (λ e. absurd (omega (arith, e))) shared in
    subst (AreJoined from to) (sym same) (joined monotone)

pub Keeps-stepped_before : (from to place n : ℕ) (b : Buffer) → from ≤ place → place + n < to → to ≤ length b.items → JoinedIf from to b
    → Keeps b (stepped_before place n b) × JoinedIf from to (stepped_before place n b)
Keeps-stepped_before from to place zero b low high within joined = (Keeps-same b, joined)
Keeps-stepped_before from to place (suc n) b low high within joined =
    let k = place + n in
    let next : place + suc n ≡ suc k = omega arith in
    let c = exchanged k (suc k) b in
    let one = Keeps-exchanged from to k b (omega (arith, low)) (omega (arith, high)) within joined in
    let stays = joined-exchanged from to k b (omega (arith, low)) (omega (arith, high)) within joined in
    let rest = Keeps-stepped_before from to place n c low (omega (arith, high)) (omega (arith, within, length-swap b.items k (suc k))) stays in
    subst (λ j. Keeps b (stepped_before place n (exchanged k j b)) × JoinedIf from to (stepped_before place n (exchanged k j b))) (sym next)
    (Keeps-then b c (stepped_before place n c) one rest.0, rest.1)

Keeps-stepped_after : (from to place n : ℕ) (b : Buffer) → from ≤ place → place + n < to → to ≤ length b.items → JoinedIf from to b
    → Keeps b (stepped_after place n b) × JoinedIf from to (stepped_after place n b)
Keeps-stepped_after from to place zero b low high within joined = (Keeps-same b, joined)
Keeps-stepped_after from to place (suc n) b low high within joined =
    let k = place + n in
    let next : place + suc n ≡ suc k = omega arith in
    let c = stepped_after place n b in
    let first = Keeps-stepped_after from to place n b low (omega (arith, high)) within joined in
    let long : to ≤ length c.items = omega (arith, within, length-stepped_after place n b) in
    let one = Keeps-exchanged from to k c (omega (arith, low)) (omega (arith, high)) long first.1 in
    let stays = joined-exchanged from to k c (omega (arith, low)) (omega (arith, high)) long first.1 in
    subst (λ j. Keeps b (exchanged k j c) × JoinedIf from to (exchanged k j c)) (sym next)
    (Keeps-then b c (exchanged k (suc k) c) first.0 one, stays)

-- items of a span that was merged share a cluster
pub joined-merged : (start end : ℕ) (b : Buffer) → end ≤ length b.items → JoinedIf start end (merge_clusters start end b)
joined-merged start end b within = λ monotone.
    let level : (merge_clusters start end b).cluster_level ≡ b.cluster_level
    = ap (λ (c : Buffer). c.cluster_level) (without_items-merge_clusters start end b) in
    let is = merge_clusters-monotone start end b (subst IsMonotoneLevel level monotone) in
    let are : (merge_clusters start end b).items ≡ merge start end b.items = ap (λ (m : Buffer). m.items) is in
    subst (AreJoined start end) (sym (ap clusters are))
    (λ k low high. merge_joins start end b.items k low high (omega (arith, within)))

pub Keeps-brought_before : (place from : ℕ) (b : Buffer) → place ≤ from → from < length b.items → Keeps b (brought_before place from b)
Keeps-brought_before place from b ordered within =
    let merged = merge_clusters place (from + 1) b in
    let one = Keeps-merge place (from + 1) b (omega (arith, within)) in
    let joined = joined-merged place (from + 1) b (omega (arith, within)) in
    let moved = Keeps-stepped_before place (from + 1) place (from - place) merged (omega arith) (omega (arith, ordered))
    (omega (arith, within, one.count)) joined in
    Keeps-then b merged (brought_before place from b) one moved.0

pub Keeps-sent_after : (place to : ℕ) (b : Buffer) → place ≤ to → to < length b.items → Keeps b (sent_after place to b)
Keeps-sent_after place to b ordered within =
    let merged = merge_clusters place (to + 1) b in
    let one = Keeps-merge place (to + 1) b (omega (arith, within)) in
    let joined = joined-merged place (to + 1) b (omega (arith, within)) in
    let moved = Keeps-stepped_after place (to + 1) place (to - place) merged (omega arith) (omega (arith, ordered))
    (omega (arith, within, one.count)) joined in
    Keeps-then b merged (sent_after place to b) one moved.0

-- ---- walks over syllables

-- what is done with a syllable keeps them
abbrev pub KeepsSyllables : OfSyllable → Type 0
KeepsSyllables does = (b : Buffer) (start end : ℕ) → start ≤ end → end ≤ length b.items → Keeps b (does b start end)

end_within : (items : List Item) (i : ℕ) → i < length items → (i ≤ end_of items i) × (end_of items i ≤ length items)
end_within items i within =
    let count = count_in (syllable_of (item_at items i)) (drop i items) in
    let few : count ≤ length (drop i items) = prefix_len-le-length (is_in (syllable_of (item_at items i))) (drop i items) in
    let long : length (drop i items) ≡ length items - i = length-drop i items in
    (omega arith, omega (arith, few, long, within))

pub Keeps-at_syllable : (does : OfSyllable) → KeepsSyllables does → (i : ℕ) (b : Buffer) → i < length b.items → Keeps b (at_syllable does i b)
Keeps-at_syllable does keeps i b within =
    let inside = end_within b.items i within in
    elim (begins_at b.items i) as (λ t. Keeps b (if t then does b i (end_of b.items i) else b)) [
      | true ↦ keeps b i (end_of b.items i) inside.0 inside.1
      | false ↦ Keeps-same b
    ]

Keeps-to_syllable : (does : OfSyllable) → KeepsSyllables does → (n : ℕ) (b : Buffer) → n ≤ length b.items → Keeps b (to_syllable does n b)
Keeps-to_syllable does keeps zero b within = Keeps-same b
Keeps-to_syllable does keeps (suc i) b within =
    let before = to_syllable does i b in
    let first = Keeps-to_syllable does keeps i b (omega (arith, within)) in
    Keeps-then b before (at_syllable does i before) first
    (Keeps-at_syllable does keeps i before (omega (arith, within, first.count)))

pub Keeps-each_syllable : (does : OfSyllable) → KeepsSyllables does → (b : Buffer) → Keeps b (each_syllable does b)
Keeps-each_syllable does keeps b = Keeps-to_syllable does keeps (length b.items) b (omega arith)

pub Keeps-marked : KeepsSyllables marked
Keeps-marked b start end ordered within = Keeps-unsafe_to_break start end b

-- ---- order and flags alone

pub record Preserved (b c : Buffer) : Type 0 where
  pub order : IsMonotoneLevel b.cluster_level → PreservesOrder b c
  pub flags : PreservesFlags b c

pub Preserved-kept : (b c : Buffer) → Keeps b c → Preserved b c
Preserved-kept b c keeps = record { order = keeps.order; flags = keeps.flags }

pub Preserved-same : (b : Buffer) → Preserved b b
Preserved-same b = Preserved-kept b b (Keeps-same b)

pub Preserved-then : (a b c : Buffer) → Preserved a b → Preserved b c → Preserved a c
Preserved-then a b c first later = record {
  order = λ monotone.
      let one = first.order monotone in
      PreservesOrder-then a b c one (later.order (subst IsMonotoneLevel (sym one.level) monotone));
  flags = PreservesFlags-then a b c first.flags later.flags;
}

-- a new list whose clusters are drawn in order and whose flags are those of the old one
pub Preserved-replaced : (b : Buffer) (items : List Item) → DrawsInOrder (clusters b.items) (clusters items)
    → ((flag : ℕ) → some_has flag items ≡ true → some_has flag b.items ≡ true) → Preserved b (with_items items b)
Preserved-replaced b items draws none = record {
  order = λ monotone. record {
    clusters = PreservesClusters-from_draws (clusters b.items) (clusters items) draws;
    direction = refl;
    flags = refl;
    level = refl;
  };
  flags = record {
    flags = refl;
    stays_set = λ e. e;
    none_new = λ flag d some. inl (none flag some);
  };
}

-- ---- each item by a function

pub Keeps-mapped : (f : Item → Item) → ((x : Item) → (f x).cluster ≡ x.cluster) → ((x : Item) → (f x).mask ≡ x.mask) → (b : Buffer)
    → Keeps b (items_mapped f b)
unfolding items_mapped
Keeps-mapped f cluster mask b = record {
  order = λ monotone. order-items_mapped f cluster b monotone;
  flags = flags-items_mapped f mask b;
  count = length-map b.items f;
}
