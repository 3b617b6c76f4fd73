use Rattle.std.proofs.Common.{rules}
use Rattle.shape_glyphs.specs.Classes.{with_class, classes_synthesised}
use Rattle.shape_glyphs.proofs.glyphs.hb_synthesize_glyph_classes.Goals as goal

pub returns : goal.returns
unfolding classes_synthesised
returns c = c.update_items.ensures with_class (λ x y said. search rules)
