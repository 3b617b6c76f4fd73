-- what the engine returns of a face, and what it makes of a buffer
use Rattle.std.specs.Prelude.{None, ℕ, List, true, false, not, nat_eq}
use Rattle.shape_items.specs.Buffer.{Buffer}
use Rattle.shape_buffer.specs.Layout.{LayoutMeaning, LookupMeaning}
use Rattle.shape_buffer.specs.MapBuilder.{Builder}
use Rattle.shape_buffer.specs.declared.interfaces.map_request.TableIndex.{TableIndex}
use Rattle.shape_buffer.specs.declared.interfaces.map_request.TableIndex.TheVariants.{GSUB, GPOS}
use Rattle.apple_positioning.specs.OldTables.{has_machine, has_across, kern_run}
use Rattle.apple_positioning.specs.Tables.{table_run}
use Rattle.apple_positioning.specs.Tracking.{run_tracked}
use Rattle.apple_substitution.specs.Chains.{without_deleted, deleted_narrowed}
use Rattle.apple_substitution.specs.Substitution.{substituted as substituted_by}
use Rattle.kern_table.specs.Tables.{subtable_count_of}
use Rattle.layout_context.specs.Stages.{substituted}
use Rattle.layout_map.specs.Map.{OtMap, compiled}
use Rattle.layout_map.specs.Stages as stages
use Rattle.layout_map.specs.declared.lookups.LookupMap.{LookupMap}
use Rattle.layout_positions.specs.Attachment.{offsets_finished}
use Rattle.layout_positions.specs.Walk.{started, positioned}
use Rattle.layout_tables.specs.Gdef.{has_glyph_classes}
use Rattle.opentype_layout.specs.Apple.{morx_of, kerx_of, kern_of}
use Rattle.opentype_layout.specs.Chosen.{script_in, chosen_in}
use Rattle.opentype_layout.specs.Classes.{glyphs_begun}
use Rattle.opentype_layout.specs.Lookups.{lookups_of}
use Rattle.opentype_layout.specs.Would.{feature_would}
use Rattle.opentype_layout.specs.declared.face.OpenTypeFace.{OpenTypeFace}
use Rattle.opentype_layout.specs.declared.lookups.LookupTables.{LookupTables}

abbrev pub table_of : OpenTypeFace → TableIndex → List ℕ
table_of f GSUB = f.gsub.now
table_of f GPOS = f.gpos.now

abbrev pub gsub_tables : OpenTypeFace → LookupTables
gsub_tables f = record { table = f.gsub; gdef = f.gdef; coordinates = f.coordinates; device_work = 0; scale = None; positioning = false }

abbrev pub gpos_tables : OpenTypeFace → LookupTables
gpos_tables f = record { table = f.gpos; gdef = f.gdef; coordinates = f.coordinates; device_work = f.device_work; scale = f.scale; positioning = true }

-- the lookups of positioning, one after the other
unfoldable pub positioned_by : LookupTables → List LookupMap → Buffer → Buffer
positioned_by t maps = positioned (lookups_of t maps)

-- requests, compiled for the scripts that were chosen and the language of the text, at the coordinates of the font
abbrev pub map_of : OpenTypeFace → Builder → OtMap
map_of f builder = let coordinates = f.coordinates.now in
    compiled (chosen_in f.gsub.now coordinates builder.gsub_script builder.language)
    (chosen_in f.gpos.now coordinates builder.gpos_script builder.language) builder.requests

abbrev pub opentype_layout : OpenTypeFace → LayoutMeaning OtMap
opentype_layout f = record {
  chosen_script = λ script language table. script_in (table_of f table) script language;
  compiled = map_of f;
  has_glyph_classes = has_glyph_classes f.gdef.now;
  has_kerning = not (nat_eq (subtable_count_of f.font.kern.now) 0);
  has_machine_kerning = has_machine f.font.kern.now;
  has_cross_kerning = has_across f.font.kern.now;
}

abbrev pub opentype_lookups : OtMap → OpenTypeFace → LookupMeaning
opentype_lookups m f = record {
  would_substitute = λ tag glyphs zero_context. feature_would f.gsub.now m tag.0 glyphs zero_context;
  substitute_start = glyphs_begun f.gdef.now;
  stage = λ i. substituted (lookups_of (gsub_tables f) (stages.lookups_of m.gsub i));
  aat_substitute = substituted_by (morx_of f);
  aat_remove_deleted = without_deleted;
  aat_zero_width_deleted = deleted_narrowed;
  position_start = started;
  position = positioned_by (gpos_tables f) m.gpos;
  position_finish_advances = λ b. b;
  position_finish_offsets = offsets_finished;
  aat_position = λ mask. table_run (kerx_of f mask);
  kern = λ mask. kern_run (kern_of f mask);
  aat_track = run_tracked f.font.apple.trak.now f.scale f.font.points;
}
