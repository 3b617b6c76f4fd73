-- What the bytes of a font file are as a face.
use Rattle.std.specs.Prelude.{◌≡◌, ℕ, List, [], None, nat_lt}
use Rattle.std.specs.Option.{option_map}
use Rattle.opentype_layout.specs.declared.face.OpenTypeFace.{OpenTypeFace}
use Rattle.shape_font.specs.Bytes.{u16_of}
use Rattle.shape_font.specs.Cff.{chosen_layout, chosen_table}
use Rattle.shape_font.specs.Directory.{bytes_of, has_table}
use Rattle.shape_font.specs.FontPages.{font_page_of}
use Rattle.shape_font.specs.Metrics.{long_metrics}
use Rattle.shape_font.specs.Subtables.{chosen_subtable}
use Rattle.shape_font.specs.Variations.{sequences_of}
use Rattle.shape_font.specs.declared.face.FontFace.{FontFace}
use Rattle.apple_positioning.specs.declared.tracking.TheConstants.{NO_SIZE}

-- how many units the em square has; 0 if the bytes have no font with this number
abbrev pub units_of : List ℕ → ℕ → ℕ
units_of bytes index = u16_of (bytes_of bytes index 0x68656164) 18

-- a font's numbers and tables are those of the bytes, at the default instance, at no size and of no known number of points; a table is
-- named by its tag, as 0x68656164 is `head`
pub record IsFontOf (bytes : List ℕ) (index : ℕ) (font : FontFace) : Type 0 where
  pub units_per_em : font.units_per_em ≡ units_of bytes index
  pub glyph_count : font.glyph_count ≡ u16_of (bytes_of bytes index 0x6D617870) 4
  pub h_count : font.h_count ≡ long_metrics (bytes_of bytes index 0x686D7478) (u16_of (bytes_of bytes index 0x68686561) 34)
  pub v_count : font.v_count ≡ long_metrics (bytes_of bytes index 0x766D7478) (u16_of (bytes_of bytes index 0x76686561) 34)
  pub long_places : font.long_places ≡ nat_lt 0 (u16_of (bytes_of bytes index 0x68656164) 50)
  pub outlines : font.outlines ≡ has_table bytes index 0x676C7966
  pub font_page : font.font_page ≡ font_page_of (bytes_of bytes index 0x636D6170) (bytes_of bytes index 0x4F532F32)
  pub has_gsub : font.tables.gsub ≡ has_table bytes index 0x47535542
  pub has_gpos : font.tables.gpos ≡ has_table bytes index 0x47504F53
  pub has_morx : font.tables.morx ≡ has_table bytes index 0x6D6F7278
  pub has_kerx : font.tables.kerx ≡ has_table bytes index 0x6B657278
  pub has_trak : font.tables.trak ≡ has_table bytes index 0x7472616B
  pub cmap : font.cmap.now ≡ chosen_subtable (bytes_of bytes index 0x636D6170)
  pub sequences : font.sequences.now ≡ sequences_of (bytes_of bytes index 0x636D6170)
  pub hmtx : font.hmtx.now ≡ bytes_of bytes index 0x686D7478
  pub vmtx : font.vmtx.now ≡ bytes_of bytes index 0x766D7478
  pub vorg : font.vorg.now ≡ bytes_of bytes index 0x564F5247
  pub loca : font.loca.now ≡ bytes_of bytes index 0x6C6F6361
  pub glyf : font.glyf.now ≡ bytes_of bytes index 0x676C7966
  pub hhea : font.hhea.now ≡ bytes_of bytes index 0x68686561
  pub os2 : font.os2.now ≡ bytes_of bytes index 0x4F532F32
  pub kern : font.kern.now ≡ bytes_of bytes index 0x6B65726E
  pub post : font.post.now ≡ bytes_of bytes index 0x706F7374
  pub gdef : font.gdef.now ≡ bytes_of bytes index 0x47444546
  pub gsub : font.gsub.now ≡ bytes_of bytes index 0x47535542
  pub gpos : font.gpos.now ≡ bytes_of bytes index 0x47504F53
  pub cff_layout : option_map (λ cff. cff.layout) font.cff ≡ chosen_layout bytes index (u16_of (bytes_of bytes index 0x6D617870) 4)
  pub cff_table : option_map (λ cff. cff.table.now) font.cff ≡ chosen_table bytes index (u16_of (bytes_of bytes index 0x6D617870) 4)
  pub sbix : font.bitmaps.sbix.now ≡ bytes_of bytes index 0x73626978
  pub cblc : font.bitmaps.cblc.now ≡ bytes_of bytes index 0x43424C43
  pub cbdt : font.bitmaps.cbdt.now ≡ bytes_of bytes index 0x43424454
  pub colr : font.colr.now ≡ bytes_of bytes index 0x434F4C52
  pub hvar : font.hvar.now ≡ bytes_of bytes index 0x48564152
  pub vvar : font.vvar.now ≡ bytes_of bytes index 0x56564152
  pub gvar : font.gvar.now ≡ bytes_of bytes index 0x67766172
  pub mvar : font.mvar.now ≡ bytes_of bytes index 0x4D564152
  pub morx : font.apple.morx.now ≡ bytes_of bytes index 0x6D6F7278
  pub feat : font.apple.feat.now ≡ bytes_of bytes index 0x66656174
  pub ltag : font.apple.ltag.now ≡ bytes_of bytes index 0x6C746167
  pub kerx : font.apple.kerx.now ≡ bytes_of bytes index 0x6B657278
  pub ankr : font.apple.ankr.now ≡ bytes_of bytes index 0x616E6B72
  pub trak : font.apple.trak.now ≡ bytes_of bytes index 0x7472616B
  pub coordinates : font.coordinates.now ≡ []
  pub scale : font.scale ≡ None
  pub points : font.points ≡ NO_SIZE

-- a face is that of a font with its three tables of layout, at the default instance and at no size
pub record IsFaceOf (bytes : List ℕ) (index : ℕ) (face : OpenTypeFace) : Type 0 where
  pub font : IsFontOf bytes index face.font
  pub gdef : face.gdef.now ≡ bytes_of bytes index 0x47444546
  pub gsub : face.gsub.now ≡ bytes_of bytes index 0x47535542
  pub gpos : face.gpos.now ≡ bytes_of bytes index 0x47504F53
  pub coordinates : face.coordinates.now ≡ []
  pub scale : face.scale ≡ None
  pub device_work : face.device_work ≡ 0
