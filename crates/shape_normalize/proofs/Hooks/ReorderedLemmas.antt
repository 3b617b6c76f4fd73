-- A run that a hook reorders is permuted, and nothing else changes except clusters, ccc and flags.
use Rattle.std.proofs.Common.{◌≡◌, ◌⊎◌, ℕ, ◌+◌, ◌-◌, ◌<◌, ◌≤◌, bit_or, max, map, length, set, slice_range, refl, sym, ap, ◌∙◌, arith, inl, inr}
use Rattle.std.specs.List.{All, swap}
use Rattle.std.specs.Int.{bit_at}
use Rattle.std.proofs.lemmas.Nat.Bits.{bit_at_or, same_from_bits}
use Rattle.std.proofs.lemmas.List.{take-map, drop-map, map-set}
use Rattle.std.proofs.lemmas.List.Elements.{All-map, All-set}
use Rattle.std.proofs.lemmas.List.Sorted.{All-permutation}
use Rattle.shape_items.specs.Buffer.{Buffer}
use Rattle.shape_items.specs.BufferClusters.{merge_clusters}
use Rattle.shape_items.specs.Items.{Item, ccc_of_item}
use Rattle.shape_common.specs.declared.text_types.BufferClusterLevel.TheVariants.{Characters}
use Rattle.shape_items.proofs.Merging.ClusterLemmas.{unsafe_to_break-cases, merge_clusters-cases}
use Rattle.shape_items.proofs.Merging.KeyLemmas.{IsKey, IsKey-ccc, IsKey-unflagged, keys-merge_clusters, without_items-merge_clusters}
use Rattle.shape_plan.specs.Reorder.{IsRunInOrder, with_ccc, ccc_set, exchanged, Reorders}
use Rattle.shape_normalize.specs.Reordered.{unmerged, without_ccc, ReordersRun}
use Rattle.shape_normalize.proofs.Normalized.NormalFlagLemmas.{flags-Reorders}
use Rattle.shape_normalize.proofs.Hooks.ReorderLemmas.{PermutesRange-map, swap_permutes, preserved_by_steps, without_items-Reorders, Reorders-before, Reorders-after, Reorders-permutes, range_set}
use Rattle.shape_normalize.proofs.RoundTwo.RunMarkLemmas.{All_unmapped}
use Rattle.shape_normalize.proofs.RoundTwo.SpanLemmas.{map-slice_range}

pub IsKey-without_ccc : IsKey without_ccc
IsKey-without_ccc = record {
  by_cluster = λ item cluster. ap (with_ccc 0) (IsKey-unflagged.by_cluster item cluster);
  by_break = λ item. ap (with_ccc 0) (IsKey-unflagged.by_break item);
}

-- ---- the scratch flag

-- the buffer's scratch flags stay, or at level CHARACTERS "has glyph flags" comes
abbrev FlagsCome : Buffer → Buffer → Type 0
FlagsCome old new =
    (new.scratch_flags.0 ≡ old.scratch_flags.0) ⊎ ((old.cluster_level ≡ Characters) × (new.scratch_flags.0 ≡ bit_or old.scratch_flags.0 32))

flags_come-merge : (from to : ℕ) (b : Buffer) → FlagsCome b (merge_clusters from to b)
flags_come-merge from to b =
    merge_clusters-cases (FlagsCome b) from to b (λ monotone. inl refl)
    (λ is. unsafe_to_break-cases (FlagsCome b) from to b (λ long. inr (is, refl)) (inl refl))

-- a bit that is set twice is set once
or_twice : (a m : ℕ) → bit_or (bit_or a m) m ≡ bit_or a m
or_twice a m =
    same_from_bits (bit_or (bit_or a m) m) (bit_or a m)
    (λ i. bit_at_or (bit_or a m) m i ∙ ap (λ n. max n (bit_at m i)) (bit_at_or a m i) ∙ max_twice (bit_at a i) (bit_at m i)
    ∙ sym (bit_at_or a m i))
  where
    max_twice : (x y : ℕ) → max (max x y) y ≡ max x y
    max_twice x y = omega arith

flags_come-then : (b c d : Buffer) → c.cluster_level ≡ b.cluster_level → FlagsCome b c → FlagsCome c d → FlagsCome b d
flags_come-then b c d level (inl first) (inl second) = inl (second ∙ first)
flags_come-then b c d level (inl first) (inr second) = inr (sym level ∙ second.0, second.1 ∙ ap (λ n. bit_or n 32) first)
flags_come-then b c d level (inr first) (inl second) = inr (first.0, second ∙ first.1)
flags_come-then b c d level (inr first) (inr second) =
    inr (first.0, second.1 ∙ ap (λ n. bit_or n 32) first.1 ∙ or_twice b.scratch_flags.0 32)

module _ (start end : ℕ) (b : Buffer) (ordered : start ≤ end) (within : end ≤ length b.items) where
  flags_come-steps : {c : Buffer} → Reorders start end b c → FlagsCome b c
  flags_come-steps steps =
      (preserved_by_steps start end (λ x. (x.cluster_level ≡ b.cluster_level) × FlagsCome b x)
      (λ x i j low_i high_i low_j high_j inside so_far. so_far)
      (λ x from to low up high inside so_far. (
        ap (λ (c : Buffer). c.cluster_level) (without_items-merge_clusters from to x)
            ∙ so_far.0,
        flags_come-then b x (merge_clusters from to x) so_far.0 so_far.1 (flags_come-merge from to x),
      ))
      (λ x i item ccc low high inside is mark so_far. so_far) steps within (refl, inl refl)).1

  -- ---- ccc stay nonzero

  abbrev HasMarks : Buffer → Type 0
  HasMarks x = All (λ ccc. 0 < ccc) (slice_range (map ccc_of_item x.items) start end)

  marks-exchanged : (x : Buffer) (i j : ℕ) → start ≤ i → i < end → start ≤ j → j < end → end ≤ length x.items → HasMarks x
      → HasMarks (exchanged i j x)
  marks-exchanged x i j low_i high_i low_j high_j inside marks =
      let moved = PermutesRange-map start end ccc_of_item x.items (swap x.items i j)
      (swap_permutes x.items start end i j low_i high_i low_j high_j inside) in
      All-permutation (λ ccc. 0 < ccc) (slice_range (map ccc_of_item x.items) start end)
      (slice_range (map ccc_of_item (swap x.items i j)) start end) moved.range marks

  marks-ccc_set : (x : Buffer) (i : ℕ) (item : Item) (ccc : ℕ) → start ≤ i → i < end → 0 < ccc → HasMarks x
      → HasMarks (ccc_set i item ccc x)
  marks-ccc_set x i item ccc low high mark marks =
      let sum : start + (i - start) ≡ i = omega arith in
      let cccs = map ccc_of_item x.items in
      let written : slice_range (map ccc_of_item (set x.items i (with_ccc ccc item))) start end
      ≡ set (slice_range cccs start end) (i - start) ccc =
      ap (λ cs. slice_range cs start end) (map-set ccc_of_item x.items i (with_ccc ccc item))
      ∙ ap (λ n. slice_range (set cccs n ccc) start end) (sym sum)
      ∙ range_set cccs start (end - start) (i - start) ccc (omega arith) in
      rw written (All-set (λ ccc. 0 < ccc) (slice_range cccs start end) (i - start) ccc mark marks)

  marks-steps : {c : Buffer} → Reorders start end b c → HasMarks b → HasMarks c
  marks-steps steps =
      preserved_by_steps start end HasMarks marks-exchanged
      (λ x from to low up high inside marks. rw (keys-merge_clusters ccc_of_item IsKey-ccc from to x) marks)
      (λ x i item ccc low high inside is mark marks. marks-ccc_set x i item ccc low high mark marks) steps within

-- what steps make of a run in order
pub ReordersRun-steps : (start end : ℕ) (b c : Buffer) → IsRunInOrder b.items start end → Reorders start end b c → ReordersRun start end b c
ReordersRun-steps start end b c run steps =
    let ordered : start ≤ end = omega (arith, run.some) in
    let marks = All-map (λ ccc. 0 < ccc) ccc_of_item (slice_range b.items start end) run.marks in
    record {
      run = rw (map-slice_range without_ccc b.items start end, map-slice_range without_ccc c.items start end)
          (Reorders-permutes start end b run.within without_ccc IsKey-without_ccc (λ item ccc. refl) steps).range;
      marks = All_unmapped ccc_of_item (λ ccc. 0 < ccc) (slice_range c.items start end)
          (rw (map-slice_range ccc_of_item c.items start end)
          (marks-steps start end b ordered run.within steps (rw (← map-slice_range ccc_of_item b.items start end) marks)));
      before = sym (take-map unmerged start c.items) ∙ Reorders-before start end b run.within unmerged IsKey-unflagged steps
          ∙ take-map unmerged start b.items;
      behind = sym (drop-map unmerged end c.items) ∙ Reorders-after start end b run.within unmerged IsKey-unflagged steps
          ∙ drop-map unmerged end b.items;
      scratch = flags_come-steps start end b ordered run.within steps;
      flags = flags-Reorders start end b run.within steps;
      rest = ap (λ (x : Buffer). record x { items = b.items; scratch_flags = b.scratch_flags })
          (without_items-Reorders start end b run.within steps);
    }
