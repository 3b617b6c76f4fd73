-- what the engine returns of a face, and what it makes of a buffer
use Rattle.std.specs.Prelude.{false, None, not, nat_eq}
use Rattle.shape_buffer.specs.Layout.{LayoutMeaning, LookupMeaning, LawfulMasks, LawfulLookups}
use Rattle.shape_buffer.specs.NoLookups.{no_lookups, no_lookups-lawful}
use Rattle.shape_font.specs.declared.face.FontFace.{FontFace}
use Rattle.kern_table.specs.Map.{kern_masks, map_of}
use Rattle.kern_table.specs.MaskLaws.{global_mask-free, one_mask-free, mask-free, shift-small}
use Rattle.kern_table.specs.Tables.{subtable_count_of, table_kerned}
use Rattle.kern_table.specs.CountLaws.{length-table_kerned}
use Rattle.kern_table.specs.declared.map.KernMap.{KernMap}

-- kerning if the table has subtables
abbrev pub kern_layout : FontFace → LayoutMeaning KernMap
kern_layout face = record {
  chosen_script = λ _ _ _. None;
  compiled = λ builder. map_of builder.requests;
  has_glyph_classes = false;
  has_kerning = not (nat_eq (subtable_count_of face.kern.now) 0);
  has_machine_kerning = false;
  has_cross_kerning = false;
}

-- every call except kerning leaves the buffer as it is
abbrev pub kern_lookups : FontFace → LookupMeaning
kern_lookups face = record no_lookups { kern = table_kerned face.scale face.kern.now }

pub kern_masks-lawful : (map : KernMap) → LawfulMasks (kern_masks map)
kern_masks-lawful map = record {
  global_mask = global_mask-free map;
  one_mask = one_mask-free map;
  mask = mask-free map;
  shift = shift-small map;
}

pub kern_lookups-lawful : (face : FontFace) → LawfulLookups (kern_lookups face)
kern_lookups-lawful face = record {
  aat_zero_width_deleted = no_lookups-lawful.aat_zero_width_deleted;
  position_start = no_lookups-lawful.position_start;
  position = no_lookups-lawful.position;
  position_finish_advances = no_lookups-lawful.position_finish_advances;
  position_finish_offsets = no_lookups-lawful.position_finish_offsets;
  aat_position = no_lookups-lawful.aat_position;
  kern = λ mask b. length-table_kerned face.scale face.kern.now mask b;
  aat_track = no_lookups-lawful.aat_track;
}
