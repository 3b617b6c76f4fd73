-- Substituting preserves clusters and flags: what is taken out was in the cluster of its neighbour.
use Rattle.std.proofs.Common.{◌≡◌, ℕ, zero, suc, ◌+◌, ◌≤◌, ◌==◌, ◌||◌, Bool, true, false, List, [], ◌∷◌, length, map, nat_lt, refl, ap, sym, ◌∙◌, inl, subst, arith, if◌then◌else◌}
use Rattle.std.proofs.lemmas.Bool.Decides.{nat_tests}
use Rattle.std.proofs.Math.ListN.{get_or-eq_default}
use Rattle.std.proofs.Math.Seq.{map-set_same}
use Rattle.std.specs.List.{remove}
use Rattle.shape_items.specs.Buffer.{Buffer}
use Rattle.shape_items.specs.BufferClusters.{merge_clusters, merge_at}
use Rattle.shape_items.specs.Clusters.{clusters}
use Rattle.shape_items.specs.ClusterOrder.{IsMonotoneLevel}
use Rattle.shape_items.specs.Items.{Item, new_item}
use Rattle.shape_buffer.specs.Preservation.{PreservesOrder, IsClusterPreserving, IsFlagPreserving}
use Rattle.shape_items.specs.PreservesFlags.{PreservesFlags, has_flag, some_has}
use Rattle.shape_items.proofs.Merging.ClusterLemmas.{merge_clusters-monotone}
use Rattle.shape_items.proofs.Deletion.DeletePreserves.{merged_preserves}
use Rattle.shape_items.proofs.Order.DrawsInOrder.{DrawsInOrder, DrawsInOrder-same, DrawsInOrder-after, DrawsInOrder-again, PreservesClusters-from_draws}
use Rattle.shape_items.proofs.Flags.FlagLemmas.{PreservesFlags-same, PreservesFlags-then}
use Rattle.shape_buffer.proofs.Steps.PreservationLemmas.{PreservesClusters-equal, PreservesClusters-then, PreservesOrder-same, PreservesOrder-then, clusters-map}
use Rattle.shape_users.specs.Ligatures.{with_glyph, single, singled, nth_item, is_pair, glyph_put, taken_out, ligated_at, ligated, substituted}
use Rattle.shape_users.specs.declared.ligatures.substitution.TheConstants.{SINGLE, LIGATURE}
use Rattle.shape_plan.proofs.AuthorLemmas.{flags-same_masks}

-- ---- an item taken out

taken_out-draws : (xs : List Item) (i : ℕ) → DrawsInOrder (clusters xs) (clusters (remove xs i))
taken_out-draws [] zero = DrawsInOrder-same []
taken_out-draws [] (suc i) = DrawsInOrder-same []
taken_out-draws (x ∷ xs) zero = DrawsInOrder-after x.cluster (clusters xs) (clusters xs) (DrawsInOrder-same (clusters xs))
taken_out-draws (x ∷ xs) (suc i) =
    DrawsInOrder-again x.cluster (clusters xs) (clusters (remove xs i))
    (DrawsInOrder-after x.cluster (clusters xs) (clusters (remove xs i)) (taken_out-draws xs i))

or_left : (a b c : Bool) → (b ≡ true → c ≡ true) → (a || b) ≡ true → (a || c) ≡ true
or_left true b c more some = refl
or_left false b c more some = more some

or_right : (a b : Bool) → b ≡ true → (a || b) ≡ true
or_right true b some = refl
or_right false b some = some

taken_out-some : (flag : ℕ) (xs : List Item) (i : ℕ) → some_has flag (remove xs i) ≡ true → some_has flag xs ≡ true
taken_out-some flag [] zero some = some
taken_out-some flag [] (suc i) some = some
taken_out-some flag (x ∷ xs) zero some = or_right (has_flag flag x) (some_has flag xs) some
taken_out-some flag (x ∷ xs) (suc i) some =
    or_left (has_flag flag x) (some_has flag (remove xs i)) (some_has flag xs) (taken_out-some flag xs i) some

-- ---- single glyphs

single-mask : (x : Item) → (single x).mask ≡ x.mask
single-mask x = elim (x.glyph_id == SINGLE.0) as (λ t. (if t then with_glyph SINGLE.1 x else x).mask ≡ x.mask) [ true ↦ refl | false ↦ refl ]

single-cluster : (x : Item) → (single x).cluster ≡ x.cluster
single-cluster x = elim (x.glyph_id == SINGLE.0) as (λ t. (if t then with_glyph SINGLE.1 x else x).cluster ≡ x.cluster) [ true ↦ refl | false ↦ refl ]

masks-singled : (xs : List Item) → map (λ (x : Item). x.mask) (map single xs) ≡ map (λ (x : Item). x.mask) xs
masks-singled [] = refl
masks-singled (x ∷ xs) =
    ap (λ m. m ∷ map (λ (x : Item). x.mask) (map single xs)) (single-mask x) ∙ ap (λ ms. x.mask ∷ ms) (masks-singled xs)

singled-order : IsClusterPreserving singled
singled-order b monotone =
    record { clusters = PreservesClusters-equal _ _ (clusters-map single single-cluster b.items); direction = refl; flags = refl; level = refl }

singled-flags : IsFlagPreserving singled
singled-flags b = flags-same_masks b (map single b.items) (masks-singled b.items)

-- ---- ligatures

-- the two places are in the list
pair-within : (xs : List Item) (i : ℕ) → is_pair xs i ≡ true → i + 2 ≤ length xs
pair-within xs i pair =
    let third : (nth_item xs (i + 1)).glyph_id ≡ LIGATURE.1 = grind (arith, nat_tests, pair) in
    let P : Bool → Type 0 = λ t. nat_lt (i + 1) (length xs) ≡ t → i + 2 ≤ length xs in
    let cases : P (nat_lt (i + 1) (length xs)) = elim (nat_lt (i + 1) (length xs)) as P [
      | true ↦ λ e. grind (arith, nat_tests, e)
      | false ↦ λ e.
          let past : length xs ≤ i + 1 = grind (arith, nat_tests, e) in
          let none : (nth_item xs (i + 1)).glyph_id ≡ 0 = ap (λ (x : Item). x.glyph_id) (get_or-eq_default xs (new_item 0 0) past) in
          absurd (omega (arith, third, none))
    ] in
    cases refl

ligated_at-order : (i : ℕ) → IsClusterPreserving (ligated_at i)
ligated_at-order i b monotone =
    let merged = merge_clusters i (i + 2) b in
    let P : Bool → Type 0 = λ t. is_pair b.items i ≡ t → PreservesOrder b (if t then taken_out (i + 1) (glyph_put i LIGATURE.2 merged) else b) in
    let cases : P (is_pair b.items i) = elim (is_pair b.items i) as P [
      | true ↦ λ e.
          let put = glyph_put i LIGATURE.2 merged in
          let first = (merged_preserves i (i + 2) b merged (pair-within b.items i e) refl).0 in
          let second : clusters put.items
          ≡ clusters merged.items = map-set_same (λ (x : Item). x.cluster) merged.items i (with_glyph LIGATURE.2 (nth_item merged.items i))
          (new_item 0 0) refl in
          let third = PreservesClusters-from_draws (clusters put.items) (clusters (remove put.items (i + 1)))
          (taken_out-draws put.items (i + 1)) in
          let at : merged ≡ merge_at i (i + 2) b = merge_clusters-monotone i (i + 2) b monotone in
          record {
            clusters = PreservesClusters-then _ _ _ first
                (PreservesClusters-then _ _ _ (PreservesClusters-equal (clusters merged.items) (clusters put.items) second) third);
            direction = ap (λ (m : Buffer). m.direction) at;
            flags = ap (λ (m : Buffer). m.flags) at;
            level = ap (λ (m : Buffer). m.cluster_level) at;
          }
      | false ↦ λ e. PreservesOrder-same b
    ] in
    cases refl

ligated_at-flags : (i : ℕ) → IsFlagPreserving (ligated_at i)
ligated_at-flags i b =
    let merged = merge_clusters i (i + 2) b in
    let P : Bool → Type 0 = λ t. is_pair b.items i ≡ t → PreservesFlags b (if t then taken_out (i + 1) (glyph_put i LIGATURE.2 merged) else b) in
    let cases : P (is_pair b.items i) = elim (is_pair b.items i) as P [
      | true ↦ λ e.
          let put = glyph_put i LIGATURE.2 merged in
          let first = (merged_preserves i (i + 2) b merged (pair-within b.items i e) refl).1 in
          let same = map-set_same (λ (x : Item). x.mask) merged.items i (with_glyph LIGATURE.2 (nth_item merged.items i)) (new_item 0 0) refl in
          let second : PreservesFlags merged put = flags-same_masks merged put.items same in
          let third : PreservesFlags put (taken_out (i + 1) put) = record {
            flags = refl;
            stays_set = λ e. e;
            none_new = λ flag is some. inl
                (taken_out-some flag put.items (i + 1) some);
          } in
          PreservesFlags-then b merged (taken_out (i + 1) put) first (PreservesFlags-then merged put (taken_out (i + 1) put) second third)
      | false ↦ λ e. PreservesFlags-same b
    ] in
    cases refl

ligated-order : (n : ℕ) → IsClusterPreserving (ligated n)
ligated-order zero b monotone = PreservesOrder-same b
ligated-order (suc n) b monotone =
    let before = ligated-order n b monotone in
    PreservesOrder-then b (ligated n b) (ligated_at n (ligated n b)) before
    (ligated_at-order n (ligated n b) (subst IsMonotoneLevel (sym before.level) monotone))

ligated-flags : (n : ℕ) → IsFlagPreserving (ligated n)
ligated-flags zero b = PreservesFlags-same b
ligated-flags (suc n) b =
    PreservesFlags-then b (ligated n b) (ligated_at n (ligated n b)) (ligated-flags n b) (ligated_at-flags n (ligated n b))

pub substituted-order : IsClusterPreserving substituted
substituted-order b monotone =
    PreservesOrder-then b (singled b) (substituted b) (singled-order b monotone) (ligated-order (length b.items) (singled b) monotone)

pub substituted-flags : IsFlagPreserving substituted
substituted-flags b = PreservesFlags-then b (singled b) (substituted b) (singled-flags b) (ligated-flags (length b.items) (singled b))
