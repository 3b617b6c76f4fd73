-- The extents of a glyph: how its ink lies.
use Rattle.shape_common.specs.declared.face.hb_glyph_extents_t.{hb_glyph_extents_t}

abbrev pub Extents : Type 0
Extents = hb_glyph_extents_t
