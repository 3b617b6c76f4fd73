use Rattle.std.proofs.Common.{rules}
use Rattle.shape_glyphs.specs.Classes.{with_nominal_glyph, glyphs_mapped}
use Rattle.shape_glyphs.proofs.glyphs.map_glyphs_fast.Goals as goal

pub returns : goal.returns
unfolding glyphs_mapped
returns c = c.update_items.ensures with_nominal_glyph (λ x y said. search rules)
