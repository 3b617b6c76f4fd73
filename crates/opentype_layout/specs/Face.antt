-- a font file as OpenType layout sees it
use Rattle.std.specs.Prelude.{ℕ, List, Bool, nat_eq, nat_lt}
use Rattle.apple_positioning.specs.Tracking.{has_tracking}
use Rattle.apple_substitution.specs.Metamorphosis.{is_present}
use Rattle.shape_common.specs.Face.{FaceMeaning}
use Rattle.shape_common.specs.declared.face.hb_tables_t.{hb_tables_t}
use Rattle.shape_font.specs.Bytes.{u16_of}
use Rattle.shape_font.specs.Face.{font_face}
use Rattle.opentype_layout.specs.declared.face.OpenTypeFace.{OpenTypeFace}

-- a table of lookups of major version 1 is read
abbrev pub is_read : List ℕ → Bool
is_read t = nat_eq (u16_of t 0) 1

-- `kerx` is read of version 2 on
abbrev pub reads_kerx : List ℕ → Bool
reads_kerx t = nat_lt 1 (u16_of t 0)

abbrev pub tables_of : OpenTypeFace → hb_tables_t
tables_of f = record {
  gsub = is_read f.gsub.now;
  gpos = is_read f.gpos.now;
  morx = is_present f.font.apple.morx.now;
  kerx = reads_kerx f.font.apple.kerx.now;
  trak = has_tracking f.font.apple.trak.now;
}

abbrev pub opentype_face : OpenTypeFace → FaceMeaning
opentype_face f = record (font_face f.font) { tables = tables_of f }
