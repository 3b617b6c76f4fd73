-- the engine preserves clusters and flags, whatever the font is
use Rattle.std.proofs.Common.{◌≡◌, ℕ, List, [], ◌∷◌, map, refl, sym, ◌∙◌, inl}
use Rattle.shape_items.specs.Items.{Item}
use Rattle.shape_items.specs.PreservesFlags.{some_has}
use Rattle.shape_items.proofs.Flags.FlagLemmas.{PreservesFlags-same}
use Rattle.shape_buffer.specs.Preservation.{IsClusterPreserving, IsFlagPreserving, LookupsPreserveClusters, LookupsPreserveFlags}
use Rattle.shape_buffer.specs.Walks.{items_mapped}
use Rattle.shape_buffer.proofs.Steps.PreservationLemmas.{PreservesOrder-same, order-items_mapped}
use Rattle.shape_common.specs.declared.text_types.Feature.{Feature}
use Rattle.apple_positioning.proofs.KernPreservation.{kern-order, kern-flags}
use Rattle.apple_positioning.proofs.KerxPreservation.{kerx-order, kerx-flags}
use Rattle.apple_positioning.proofs.TrakPreservation.{trak-order, trak-flags}
use Rattle.apple_substitution.proofs.DeletedLemmas.{without_deleted-order, without_deleted-flags, deleted_narrowed-order, deleted_narrowed-flags}
use Rattle.apple_substitution.proofs.MorxPreservation.{morx-order, morx-flags}
use Rattle.apple_substitution.specs.Substitution.{Font, language_of, source_for, substituted}
use Rattle.layout_context.proofs.StageLemmas.{stage-order, stage-flags}
use Rattle.layout_map.specs.Map.{OtMap}
use Rattle.layout_map.specs.Stages as stages
use Rattle.layout_positions.proofs.PreservationLemmas.{started-clusters, started-flags, positioned-clusters, positioned-flags, finished-clusters, finished-flags}
use Rattle.opentype_layout.specs.Apple.{morx_of, kerx_of, kern_of}
use Rattle.opentype_layout.specs.Classes.{begun, glyphs_begun}
use Rattle.opentype_layout.specs.Engine.{gsub_tables, gpos_tables, positioned_by, opentype_lookups}
use Rattle.opentype_layout.specs.Lookups.{lookups_of}
use Rattle.opentype_layout.specs.declared.face.OpenTypeFace.{OpenTypeFace}

-- ---- a walk

some_has-map : (f : Item → Item) → ((x : Item) → (f x).mask ≡ x.mask) → (flag : ℕ) (xs : List Item)
    → some_has flag (map f xs) ≡ some_has flag xs
some_has-map f same flag [] = refl
some_has-map f same flag (x ∷ xs) = rw (same x, some_has-map f same flag xs) refl

flags-items_mapped : (f : Item → Item) → ((x : Item) → (f x).mask ≡ x.mask) → IsFlagPreserving (items_mapped f)
unfolding items_mapped
flags-items_mapped f same b =
    record { flags = refl; stays_set = λ set. set; none_new = λ flag defined some. inl (sym (some_has-map f same flag b.items) ∙ some) }

-- ---- the beginning of substitution

order-glyphs_begun : (gdef : List ℕ) → IsClusterPreserving (glyphs_begun gdef)
unfolding glyphs_begun
order-glyphs_begun gdef = order-items_mapped (begun gdef) (λ item. refl)

flags-glyphs_begun : (gdef : List ℕ) → IsFlagPreserving (glyphs_begun gdef)
unfolding glyphs_begun
flags-glyphs_begun gdef = flags-items_mapped (begun gdef) (λ item. refl)

-- ---- Apple's tables

order-substituted : (s : Font) (features : List Feature) → IsClusterPreserving (substituted s features)
unfolding substituted
order-substituted s features b = morx-order (source_for s features (language_of b)) b

flags-substituted : (s : Font) (features : List Feature) → IsFlagPreserving (substituted s features)
unfolding substituted
flags-substituted s features b = morx-flags (source_for s features (language_of b)) b

-- ---- the engine

pub clusters-opentype : (m : OtMap) (f : OpenTypeFace) → LookupsPreserveClusters (opentype_lookups m f)
unfolding positioned_by
clusters-opentype m f =
    let left : IsClusterPreserving (λ b. b) = λ b monotone. PreservesOrder-same b in
    record {
      substitute_start = order-glyphs_begun f.gdef.now;
      stage = λ i. stage-order (lookups_of (gsub_tables f) (stages.lookups_of m.gsub i));
      aat_substitute = λ features. order-substituted (morx_of f) features;
      aat_remove_deleted = without_deleted-order;
      aat_zero_width_deleted = deleted_narrowed-order;
      position_start = started-clusters;
      position = positioned-clusters (lookups_of (gpos_tables f) m.gpos);
      position_finish_advances = left;
      position_finish_offsets = finished-clusters;
      aat_position = λ mask. kerx-order (kerx_of f mask);
      kern = λ mask. kern-order (kern_of f mask);
      aat_track = λ mask. trak-order f.font.apple.trak.now f.scale f.font.points mask;
    }

pub flags-opentype : (m : OtMap) (f : OpenTypeFace) → LookupsPreserveFlags (opentype_lookups m f)
unfolding positioned_by
flags-opentype m f =
    let left : IsFlagPreserving (λ b. b) = λ b. PreservesFlags-same b in
    record {
      substitute_start = flags-glyphs_begun f.gdef.now;
      stage = λ i. stage-flags (lookups_of (gsub_tables f) (stages.lookups_of m.gsub i));
      aat_substitute = λ features. flags-substituted (morx_of f) features;
      aat_remove_deleted = without_deleted-flags;
      aat_zero_width_deleted = deleted_narrowed-flags;
      position_start = started-flags;
      position = positioned-flags (lookups_of (gpos_tables f) m.gpos);
      position_finish_advances = left;
      position_finish_offsets = finished-flags;
      aat_position = λ mask. kerx-flags (kerx_of f mask);
      kern = λ mask. kern-flags (kern_of f mask);
      aat_track = λ mask. trak-flags f.font.apple.trak.now f.scale f.font.points mask;
    }
