-- boxes of bitmaps, by the tables of a font
use Rattle.std.specs.Prelude.{ℕ, Option, Some, None}
use Rattle.shape_common.specs.declared.face.hb_glyph_extents_t.{hb_glyph_extents_t}
use Rattle.bitmap_tables.specs.Sbix.{sbix_box}
use Rattle.bitmap_tables.specs.Cbdt.{cbdt_box}
use Rattle.bitmap_tables.specs.declared.tables.Bitmaps.{Bitmaps}

-- `sbix` is asked before `CBDT`
abbrev pub bitmap_box : Bitmaps → ℕ → ℕ → ℕ → Option hb_glyph_extents_t
bitmap_box b glyphs units_per_em glyph = elim (sbix_box b.sbix.now glyphs units_per_em glyph) [
  | Some found ↦ Some found
  | None ↦ cbdt_box b.cblc.now b.cbdt.now units_per_em glyph
]
