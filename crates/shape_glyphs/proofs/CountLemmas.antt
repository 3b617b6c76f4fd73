-- Hiding and flags leave as many positions as items.
use Rattle.std.proofs.Common.{◌≡◌, ℕ, suc, ◌-◌, Bool, nat_lt, List, [], ◌∷◌, length, take, drop, remove, slice_index, Option, Some, None, refl, ap, sym, ◌∙◌, inl, inr, arith}
use Rattle.std.specs.Prelude.{if◌then◌else◌}
use Rattle.std.specs.List.{suffix_len}
use Rattle.std.proofs.lemmas.Bool.{cases_Bool}
use Rattle.std.proofs.lemmas.List.{length-map, length-append, length-take, length-drop}
use Rattle.shape_items.specs.Buffer.{Buffer}
use Rattle.shape_items.specs.Clusters.{clusters}
use Rattle.shape_items.specs.Delete.{hand_over, give_to_kept, hand_on, delete_from}
use Rattle.shape_common.specs.Face.{FaceMeaning}
use Rattle.shape_items.specs.Flags.{flags_propagated, flagged_from, mask_after}
use Rattle.shape_items.specs.Items.{Item, has_cluster, is_ignorable_item}
use Rattle.shape_items.specs.PreservesFlags.{has_glyph_flags}
use Rattle.shape_buffer.specs.Walks.{items_mapped}
use Rattle.shape_common.specs.declared.flags.BufferFlags.{BufferFlags}
use Rattle.shape_common.specs.declared.text_types.GlyphId.{GlyphId}
use Rattle.shape_items.proofs.Flags.ClusterRunLemmas.{flagged-runs}
use Rattle.shape_items.proofs.Deletion.DeleteLemmas.{hand_on-cases, preserved_by_deletion}
use Rattle.shape_items.proofs.Merging.KeyLemmas.{length-map_range, length-merge_clusters, without_items-merge_clusters}
use Rattle.shape_glyphs.specs.Ignorables.{ignorables_hidden, shown_as, replaced_or_deleted, hides_ignorables, removes_ignorables, unseen_glyph}
use Rattle.shape_glyphs.specs.StepEffects.{PreservesLengths}

-- ---- deletion

length-give_to_kept : (kept : ℕ) (x : Item) (xs : List Item) → length (give_to_kept kept x xs) ≡ length xs
length-give_to_kept kept x xs =
    let last = slice_index (clusters xs) (kept - 1) in
    let handed = length-map_range (hand_over x) (kept - suffix_len (has_cluster last) (take kept xs)) kept xs (omega arith) in
    elim (cases_Bool (nat_lt x.cluster last)) [
      | inl below ↦ rw below handed
      | inr not_below ↦ rw not_below refl
    ]

as_many-hand_on : (k : ℕ) (x : Item) (rest : List Item) → PreservesLengths (hand_on k x rest)
as_many-hand_on k x rest b as_many =
    let positions = ap (λ (c : Buffer). length c.positions) (without_items-merge_clusters 0 2 b) in
    hand_on-cases (λ c. length c.positions ≡ length c.items) k x rest b as_many (as_many ∙ sym (length-give_to_kept k x b.items))
    (λ more. positions ∙ as_many ∙ sym (length-merge_clusters 0 2 b))

-- two lists of one length stay so without what stands at one place
length-remove_both : {X Y : Type 0} (k : ℕ) (xs : List X) (ys : List Y) → length xs ≡ length ys
    → length (remove xs k) ≡ length (remove ys k)
length-remove_both k xs ys same =
    let before = length-take k xs in
    let behind = length-drop (suc k) xs in
    let both = length-append (take k xs) (drop (suc k) xs) in
    let before' = length-take k ys in
    let behind' = length-drop (suc k) ys in
    let both' = length-append (take k ys) (drop (suc k) ys) in
    omega (arith, same)

as_many-delete_from : (p : Item → Bool) (n k : ℕ) → PreservesLengths (delete_from p n k)
as_many-delete_from p n k =
    preserved_by_deletion (λ b. length b.positions ≡ length b.items)
    (λ k x rest b e as_many.
    let handed = hand_on k x rest b in
    length-remove_both k handed.positions handed.items (as_many-hand_on k x rest b as_many)) p n k

-- ---- hiding

as_many-replaced_or_deleted : (glyph : Option GlyphId) → PreservesLengths (replaced_or_deleted glyph)
unfolding items_mapped
as_many-replaced_or_deleted None b as_many = as_many-delete_from is_ignorable_item (length b.items) 0 b as_many
as_many-replaced_or_deleted (Some glyph) b as_many = as_many ∙ sym (length-map b.items (shown_as glyph))

pub as_many-hidden : (face : FaceMeaning) → PreservesLengths (ignorables_hidden face)
unfolding ignorables_hidden
as_many-hidden face b as_many = elim (cases_Bool (hides_ignorables b)) [
  | inl due ↦ rw due (as_many-replaced_or_deleted (if removes_ignorables b then None else unseen_glyph face b) b as_many)
  | inr not_due ↦ rw not_due as_many
]

-- ---- flags

length-flagged : (flags : BufferFlags) (before : Option (ℕ × ℕ)) (items : List Item)
    → length (flagged_from flags before items) ≡ length items
unfolding flagged_from
length-flagged flags before [] = refl
length-flagged flags before (x ∷ items) = ap suc (length-flagged flags (Some (x.cluster, mask_after flags before x (x ∷ items))) items)

pub as_many-flags : PreservesLengths flags_propagated
unfolding flags_propagated
as_many-flags b as_many = elim (cases_Bool (has_glyph_flags b)) [
  | inl seen ↦ rw seen (as_many ∙ sym (ap length (sym (flagged-runs b.flags b.items)) ∙ length-flagged b.flags None b.items))
  | inr unseen ↦ rw unseen as_many
]
