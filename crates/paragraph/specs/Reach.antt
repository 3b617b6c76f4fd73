-- How far a line in a font file reaches above and below its baseline.
use Rattle.std.specs.Prelude.{pos, neg_ℤ}
use Rattle.opentype_layout.specs.declared.face.OpenTypeFace.{OpenTypeFace}
use Rattle.shape_font.specs.LinesAt.{sized_ascender, sized_descender}
use Rattle.text_lines.specs.Reach.{FontReach}

-- by OS/2 or hhea, and MVAR at coordinates, in units of its em square
abbrev pub reach_of_face : OpenTypeFace → FontReach
reach_of_face face = record {
  units = face.font.units_per_em;
  above = sized_ascender face.font;
  below = sized_descender face.font;
}
