-- What a pause knows of the plan and the face.
use Rattle.std.specs.Prelude.{ℕ, ◌==◌, ◌&&◌, not, Bool, false, Option, None, Some, List}
use Rattle.std.specs.Int.RustNames.{bit_and}
use Rattle.shape_common.specs.Face.{FaceMeaning}
use Rattle.shape_common.specs.declared.text_types.GlyphId.{GlyphId}
use Rattle.shape_common.specs.declared.text_types.Script.{Script}
use Rattle.shape_common.specs.declared.text_types.hb_tag_t.{hb_tag_t}
use Rattle.shape_buffer.specs.Layout.{LayoutMeaning, LookupMeaning, MapMeaning}
use Rattle.shape_buffer.specs.declared.interfaces.map_request.TableIndex.TheVariants.{GSUB}
use Rattle.indic_shaper.specs.Scripts.{config_of, tag_of}
use Rattle.indic_shaper.specs.declared.config.Config.{Config}
use Rattle.indic_shaper.specs.declared.config.TheConstants.{MALAYALAM}
use Rattle.indic_shaper.specs.declared.engine.Facts.{Facts}
use Rattle.indic_shaper.specs.declared.engine.Masks.{Masks}
use Rattle.indic_shaper.specs.declared.requests.TheConstants.{RPHF, PREF, BLWF, ABVF, HALF, PSTF, INIT}

-- the tag of the newer specification ends in the digit 2, as `dev2`
abbrev pub is_new_script : Option hb_tag_t → Bool
is_new_script None = false
is_new_script (Some tag) = bit_and tag.0 0xFF == 0x32

abbrev pub glyph_or_0 : Option GlyphId → ℕ
glyph_or_0 None = 0
glyph_or_0 (Some glyph) = glyph.0

abbrev pub glyph_of_some : FaceMeaning → Option ℕ → ℕ
glyph_of_some face None = 0
glyph_of_some face (Some c) = glyph_or_0 (face.nominal_glyph c)

-- the glyph of the script's virama, 0 if there is none
abbrev pub virama_of : FaceMeaning → Config → ℕ
virama_of face config = glyph_of_some face config.virama

abbrev pub masks_of : MapMeaning → Masks
masks_of map = record {
  rphf = map.one_mask RPHF;
  pref = map.one_mask PREF;
  blwf = map.one_mask BLWF;
  abvf = map.one_mask ABVF;
  half = map.one_mask HALF;
  pstf = map.one_mask PSTF;
  init = map.one_mask INIT;
}

-- by the face, the script of GSUB that the engine has chosen, the compiled requests and the text's script
abbrev pub facts : FaceMeaning → Option hb_tag_t → MapMeaning → Option Script → Facts
facts face chosen map script =
    let config = config_of (tag_of script) in
    record {
      tag = tag_of script;
      config = config;
      is_old = config.has_old_spec && not (is_new_script chosen);
      masks = masks_of map;
      virama = virama_of face config;
    }

-- of a text in this language
abbrev pub facts_of : {Map : Type 0} → FaceMeaning → LayoutMeaning Map → MapMeaning → Option Script → Option (List ℕ) → Facts
facts_of face layout map script language = facts face (layout.chosen_script script language GSUB) map script

-- "testing with Malayalam shows that old and new spec both allow context" (HarfBuzz); the newer specifications of the others don't
abbrev pub has_no_context : Facts → Bool
has_no_context facts = not facts.is_old && not (facts.tag == MALAYALAM)

-- whether lookups of a feature's stage substitute these glyphs
abbrev pub would : LookupMeaning → Facts → hb_tag_t → List ℕ → Bool
would lookups facts tag glyphs = lookups.would_substitute tag glyphs (has_no_context facts)
