use Rattle.std.proofs.Common.{◌≡◌, drop}
use Rattle.shape_fallback.specs.Spaces.{first_glyph}
use Rattle.shape_fallback.proofs.ot_shape_fallback.spaces.first_glyph.Given as goal

abbrev pub invariant-loop-c : goal.invariant-loop-c
invariant-loop-c g l =
    first_glyph (g.F.hb_font_t.face l.face) (drop l.c-index l.characters) ≡ first_glyph (g.F.hb_font_t.face l.face) l.fn.characters
