-- positioning by the engine preserves the number of items
use Rattle.std.proofs.Common.{refl}
use Rattle.shape_buffer.specs.Layout.{LawfulLookups}
use Rattle.shape_buffer.specs.PositionWalks.{positions_mapped}
use Rattle.apple_positioning.proofs.KernPreservation.{kern-count}
use Rattle.apple_positioning.proofs.KerxPreservation.{kerx-count}
use Rattle.apple_positioning.proofs.TrakPreservation.{trak-count}
use Rattle.layout_map.specs.Map.{OtMap}
use Rattle.layout_positions.proofs.PreservationLemmas.{started-kept, positioned-kept, finished-kept}
use Rattle.opentype_layout.specs.Apple.{kerx_of, kern_of}
use Rattle.opentype_layout.specs.Engine.{gpos_tables, positioned_by, opentype_lookups}
use Rattle.opentype_layout.specs.Lookups.{lookups_of}
use Rattle.opentype_layout.specs.declared.face.OpenTypeFace.{OpenTypeFace}

pub opentype_lookups-lawful : (m : OtMap) (f : OpenTypeFace) → LawfulLookups (opentype_lookups m f)
unfolding positioned_by positions_mapped
opentype_lookups-lawful m f = record {
  aat_zero_width_deleted = λ b. refl;
  position_start = λ b. (started-kept b).count;
  position = λ b. (positioned-kept (lookups_of (gpos_tables f) m.gpos) b).count;
  position_finish_advances = λ b. refl;
  position_finish_offsets = λ b. (finished-kept b).count;
  aat_position = λ mask b. kerx-count (kerx_of f mask) b;
  kern = λ mask b. kern-count (kern_of f mask) b;
  aat_track = λ mask b. trak-count f.font.apple.trak.now f.scale f.font.points mask b;
}
