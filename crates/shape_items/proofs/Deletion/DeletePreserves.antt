-- Deletion preserves the order of clusters and the flags of glyphs, and brings no new cluster.
use Rattle.std.proofs.Common.{◌≡◌, ℕ, ◌+◌, ◌-◌, ◌<◌, ◌≤◌, Bool, true, cond, nat_lt, List, [], ◌∷◌, length, get_or, take, drop, map, refl, ap, sym, ◌∙◌, arith, suc, replicate, slice_index, inl, inr, ◌⊎◌, remove, add-zero, bit_and}
use Rattle.std.proofs.lemmas.Bool.{cases_Bool}
use Rattle.std.proofs.lemmas.Bool.Decides.{nat_tests}
use Rattle.std.proofs.lemmas.List.{map-append, take-map, drop-map, length-map, length-drop, get_or-drop, take_all, drop_all, append-nil}
use Rattle.std.proofs.lemmas.List.Edits.{length-remove, get_or-remove_below, get_or-remove_above}
use Rattle.std.specs.List.{suffix_len}
use Rattle.shape_items.specs.Items.{Item, has_cluster, feature_bits}
use Rattle.shape_items.specs.Clusters.{clusters, map_range, put_range}
use Rattle.shape_items.specs.Buffer.{Buffer}
use Rattle.shape_items.specs.BufferClusters.{unsafe_to_break, merge_clusters, merge_out_clusters}
use Rattle.shape_items.specs.PreservesFlags.{IsDefinedFlag, has_flag, some_has, PreservesFlags}
use Rattle.shape_items.proofs.Merging.ClusterLemmas.{merge_clusters-cases, merge_out-cases}
use Rattle.shape_items.proofs.Merging.KeyLemmas.{keys-unsafe_to_break}
use Rattle.shape_items.proofs.Flags.FlagLemmas.{no_flag, defined_flag, take_in, drop_in, append-cases, range_brings, merge_clusters_preserves, merge_out_clusters_preserves, PreservesFlags-same, PreservesFlags-then, PreservesFlags-items}
use Rattle.std.proofs.lemmas.Nat.{and_assoc, and_or_apart, or_comm}
use Rattle.shape_items.specs.ClusterOrder.{PreservesClusters}
use Rattle.shape_items.specs.Delete.{give_to_kept, hand_on, hand_over, lose, deleted}
use Rattle.shape_items.proofs.Order.DrawsInOrder.{DrawsInOrder, DrawsInOrder-same, DrawsInOrder-then, PreservesClusters-from_draws}
use Rattle.shape_items.proofs.Merging.MergeOrder.{clusters-put_range, put_range_draws, merge_draws}
use Rattle.shape_items.proofs.Deletion.DeleteLemmas.{hand_on-cases, IsPreservedByLoss, preserved_by_deletion}

clusters-hand_over : (picked : Item) (xs : List Item) → clusters (map (hand_over picked) xs) ≡ replicate (length xs) picked.cluster
clusters-hand_over picked [] = refl
clusters-hand_over picked (x ∷ xs) = ap (λ cs. picked.cluster ∷ cs) (clusters-hand_over picked xs)

clusters-hand_over_range : (picked : Item) (a b : ℕ) (xs : List Item)
    → clusters (map_range (hand_over picked) a b xs) ≡ clusters (put_range a b picked.cluster xs)
clusters-hand_over_range picked a b xs =
    rw (clusters-put_range a b picked.cluster xs) (simp (map-append, clusters-hand_over, take-map, drop-map))

-- the picked item stands at place k
at_place : (k : ℕ) (xs rest : List Item) (x : Item) → drop k xs ≡ x ∷ rest → (k < length xs) × (get_or (clusters xs) k 0 ≡ x.cluster)
at_place k xs rest x e =
    let n : length xs - k ≡ suc (length rest) = sym (length-drop k xs) ∙ ap length e in
    let c : drop k (clusters xs) ≡ x.cluster ∷ clusters rest = drop-map (λ item. item.cluster) k xs ∙ ap clusters e in
    let read : get_or (drop k (clusters xs)) 0 0 ≡ get_or (clusters xs) (k + 0) 0 = get_or-drop k (clusters xs) 0 0 in
    (grind arith, ap (λ j. get_or (clusters xs) j 0) (sym (add-zero k)) ∙ sym read ∙ ap (λ cs. get_or cs 0 0) c)

at_least_two : (k : ℕ) (xs rest : List Item) (x : Item) → drop k xs ≡ x ∷ rest → 0 < length rest → 2 ≤ length xs
at_least_two k xs rest x e some =
    let n : length xs - k ≡ suc (length rest) = sym (length-drop k xs) ∙ ap length e in
    grind arith

give_draws : (k : ℕ) (x : Item) (rest xs : List Item) → drop k xs ≡ x ∷ rest → DrawsInOrder (clusters xs) (clusters (give_to_kept k x xs))
give_draws k x rest xs e =
    let place = at_place k xs rest x e in
    elim (cases_Bool (nat_lt x.cluster (slice_index (clusters xs) (k - 1)))) [
      | inl holds ↦ rw (
        holds,
        clusters-hand_over_range x
            (k - suffix_len (has_cluster (slice_index (clusters xs) (k - 1))) (take k xs)) k xs,
      )
          (put_range_draws (k - suffix_len (has_cluster (slice_index (clusters xs) (k - 1))) (take k xs)) k x.cluster xs k
          (omega arith) (omega arith) place.0 (omega (arith, place.0)) place.1)
      | inr fails ↦ rw fails (DrawsInOrder-same (clusters xs))
    ]

-- the clusters of a buffer are drawn in order from those of another
unfoldable pub Draws : Buffer → Buffer → Type 0
Draws b c = DrawsInOrder (clusters b.items) (clusters c.items)

draws_equal : (xs ys : List Item) → clusters ys ≡ clusters xs → DrawsInOrder (clusters xs) (clusters ys)
draws_equal xs ys e = rw e (DrawsInOrder-same (clusters xs))

pub unsafe_to_break_draws : (start end : ℕ) (b : Buffer) → Draws b (unsafe_to_break start end b)
unfolding Draws
unsafe_to_break_draws start end b = draws_equal b.items _ (keys-unsafe_to_break (λ item. item.cluster) (λ item. refl) start end b)

pub merge_clusters_draws : (start end : ℕ) (b : Buffer) → end ≤ length b.items → Draws b (merge_clusters start end b)
unfolding Draws
merge_clusters_draws start end b within =
    merge_clusters-cases (Draws b) start end b (λ monotone. merge_draws start end b.items within) (λ is. unsafe_to_break_draws start end b)

pub merge_out_clusters_draws : (start end : ℕ) (b : Buffer) → end ≤ length b.items → Draws b (merge_out_clusters start end b)
unfolding Draws
merge_out_clusters_draws start end b within =
    merge_out-cases (Draws b) start end b (merge_draws start end b.items within) (DrawsInOrder-same (clusters b.items))

-- what is drawn in order preserves clusters
pub draws_preserves : (b c : Buffer) → Draws b c → PreservesClusters (clusters b.items) (clusters c.items)
unfolding Draws
draws_preserves b c h = PreservesClusters-from_draws _ _ h

hand_on_draws : (k : ℕ) (x : Item) (rest : List Item) (b : Buffer) → drop k b.items ≡ x ∷ rest → Draws b (hand_on k x rest b)
unfolding Draws
hand_on_draws k x rest b e =
    hand_on-cases (Draws b) k x rest b (DrawsInOrder-same (clusters b.items)) (give_draws k x rest b.items e)
    (λ more. merge_clusters_draws 0 2 b (at_least_two k b.items rest x e more))

-- where the cluster at place j comes from, when place k goes
past : ℕ → ℕ → ℕ
past k j = cond (nat_lt j k) j (j + 1)

past_below : (k j : ℕ) → j < k → past k j ≡ j
unfolding past
past_below k j lt = grind (arith, nat_tests)

past_above : (k j : ℕ) → k ≤ j → past k j ≡ j + 1
unfolding past
past_above k j le = grind (arith, nat_tests)

past_in_order : (k i j : ℕ) → i ≤ j → past k i ≤ past k j
unfolding past
past_in_order k i j le = grind (arith, nat_tests)

past_within : (k j n : ℕ) → j + 1 < n → past k j < n
unfolding past
past_within k j n lt = grind (arith, nat_tests)

below_or_not : (j k : ℕ) → (j < k) ⊎ (k ≤ j)
below_or_not j k = grind arith

read_past : (k : ℕ) (cs : List ℕ) → k < length cs → (j : ℕ) → get_or (remove cs k) j 0 ≡ get_or cs (past k j) 0
read_past k cs lt j =
    elim (below_or_not j k) [
      | inl below ↦ rw past_below (get_or-remove_below cs k 0 j below lt)
      | inr above ↦ rw past_above (get_or-remove_above cs k 0 j above lt)
    ]

remove_draws : (k : ℕ) (cs : List ℕ) → k < length cs → DrawsInOrder cs (remove cs k)
remove_draws k cs lt =
    let n = length-remove cs k lt in
    record {
      place = past k;
      within = λ j jn. past_within k j (length cs) (omega arith);
      same = λ j jn. read_past k cs lt j;
      in_order = λ i j ij jn. past_in_order k i j ij;
    }

clusters-remove : (k : ℕ) (xs : List Item) → clusters (remove xs k) ≡ remove (clusters xs) k
clusters-remove k xs = simp (map-append, take-map, drop-map)

lose_draws : (k : ℕ) (xs : List Item) → k < length xs → DrawsInOrder (clusters xs) (clusters (remove xs k))
lose_draws k xs lt =
    let n : length (clusters xs) ≡ length xs = length-map xs (λ x. x.cluster) in
    rw clusters-remove (remove_draws k (clusters xs) (omega arith))

-- past the end nothing goes
remove_past : (k : ℕ) (xs : List Item) → length xs ≤ k → remove xs k ≡ xs
remove_past k xs le = rw (take_all k xs le, drop_all (suc k) xs (omega arith)) (append-nil xs)

lose_draws_any : (k : ℕ) (xs : List Item) → DrawsInOrder (clusters xs) (clusters (remove xs k))
lose_draws_any k xs =
    elim (below_or_not k (length xs)) [
      | inl lt ↦ lose_draws k xs lt
      | inr le ↦ rw (remove_past k xs le) (DrawsInOrder-same (clusters xs))
    ]

lose_draws_buffer : (k : ℕ) (b : Buffer) → Draws b (lose k b)
unfolding Draws
lose_draws_buffer k b = lose_draws_any k b.items

Draws-then : (a b c : Buffer) → Draws a b → Draws b c → Draws a c
unfolding Draws
Draws-then a b c f g = DrawsInOrder-then _ _ _ f g

Draws-same : (b : Buffer) → Draws b b
unfolding Draws
Draws-same b = DrawsInOrder-same (clusters b.items)

-- a flag of an item that was handed over is one of the picked item
hand_over-flag : (picked x : Item) (flag : ℕ) → IsDefinedFlag flag → bit_and (hand_over picked x).mask flag ≡ bit_and picked.mask flag
hand_over-flag picked x flag d =
    ap (λ m. bit_and m flag) (or_comm (feature_bits x.mask) (bit_and picked.mask 7))
    ∙ and_or_apart flag (bit_and picked.mask 7) (feature_bits x.mask) (no_flag x.mask flag d)
    ∙ and_assoc flag picked.mask 7 ∙ ap (bit_and picked.mask) (defined_flag flag d)

give_preserves : (k : ℕ) (x : Item) (rest : List Item) (b : Buffer) → drop k b.items ≡ x ∷ rest
    → PreservesFlags b (record b { items = give_to_kept k x b.items })
give_preserves k x rest b e =
    let there : (flag : ℕ) → has_flag flag x ≡ true → some_has flag b.items ≡ true =
    λ flag h. drop_in (has_flag flag) k b.items (ap (some_has flag) e ∙ (rw h refl)) in
    elim (cases_Bool (nat_lt x.cluster (slice_index (clusters b.items) (k - 1)))) [
      | inl holds ↦ rw holds (PreservesFlags-items b _ (λ flag d some.
          elim (range_brings (hand_over x) (has_flag flag) (has_flag flag x)
          (λ y h. inr (ap (nat_lt 0) (sym (hand_over-flag x y flag d)) ∙ h))
          (k - suffix_len (has_cluster (slice_index (clusters b.items) (k - 1))) (take k b.items)) k b.items some) [
            | inl before ↦ before
            | inr brought ↦ there flag brought
          ]))
      | inr fails ↦ rw fails (PreservesFlags-same b)
    ]

hand_on_preserves : (k : ℕ) (x : Item) (rest : List Item) (b : Buffer) → drop k b.items ≡ x ∷ rest → PreservesFlags b (hand_on k x rest b)
hand_on_preserves k x rest b e =
    hand_on-cases (PreservesFlags b) k x rest b (PreservesFlags-same b) (give_preserves k x rest b e) (λ more. merge_clusters_preserves 0 2 b)

lose_preserves : (k : ℕ) (b : Buffer) → PreservesFlags b (lose k b)
lose_preserves k b = record {
  flags = refl;
  stays_set = λ e. e;
  none_new = λ flag d some. elim (append-cases (has_flag flag) (take k b.items) (drop (suc k) b.items) some) [
    | inl before ↦ inl (take_in (has_flag flag) k b.items before)
    | inr after ↦ inl (drop_in (has_flag flag) (suc k) b.items after)
  ];
}

delete_preserves : (p : Item → Bool) (b : Buffer) → Draws b (deleted p b) × PreservesFlags b (deleted p b)
delete_preserves p b =
    let loses : IsPreservedByLoss (λ c. Draws b c × PreservesFlags b c) = λ k x rest c e so_far.
    (let handed = hand_on k x rest c in (
      Draws-then b c _ so_far.0 (Draws-then c handed _ (hand_on_draws k x rest c e) (lose_draws_buffer k handed)),
      PreservesFlags-then b c _ so_far.1 (PreservesFlags-then c handed _ (hand_on_preserves k x rest c e) (lose_preserves k handed)),
    )) in
    preserved_by_deletion (λ c. Draws b c × PreservesFlags b c) loses p (length b.items) 0 b (Draws-same b, PreservesFlags-same b)

-- deletion preserves the order of clusters, and brings no new one
pub deleted_preserves_clusters : (p : Item → Bool) (b : Buffer) → PreservesClusters (clusters b.items) (clusters ((deleted p b).items))
deleted_preserves_clusters p b = draws_preserves b (deleted p b) (delete_preserves p b).0

-- and it preserves the flags of glyphs
pub deleted_preserves_flags : (p : Item → Bool) (b : Buffer) → PreservesFlags b (deleted p b)
deleted_preserves_flags p b = (delete_preserves p b).1

-- the same of a buffer that equals what a call leaves
pub merged_preserves : (start end : ℕ) (b c : Buffer) → end ≤ length b.items → c ≡ merge_clusters start end b
    → PreservesClusters (clusters b.items) (clusters c.items) × PreservesFlags b c
merged_preserves start end b c within e =
    rw e (draws_preserves b _ (merge_clusters_draws start end b within), merge_clusters_preserves start end b)

pub merged_out_preserves : (start end : ℕ) (b c : Buffer) → end ≤ length b.items → c ≡ merge_out_clusters start end b
    → PreservesClusters (clusters b.items) (clusters c.items) × PreservesFlags b c
merged_out_preserves start end b c within e =
    rw e (draws_preserves b _ (merge_out_clusters_draws start end b within), merge_out_clusters_preserves start end b)

pub deleted_preserves : (p : Item → Bool) (b c : Buffer) → c ≡ deleted p b
    → PreservesClusters (clusters b.items) (clusters c.items) × PreservesFlags b c
deleted_preserves p b c e = rw e (deleted_preserves_clusters p b, deleted_preserves_flags p b)
