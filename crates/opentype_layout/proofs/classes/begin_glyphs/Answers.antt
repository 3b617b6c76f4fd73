use Rattle.std.proofs.Common.{rules}
use Rattle.opentype_layout.specs.Classes.{begun, glyphs_begun}
use Rattle.opentype_layout.proofs.classes.begin_glyphs.Goals as goal

pub returns : goal.returns
unfolding glyphs_begun
returns c = c.update_items.ensures (begun c.args.classes.gdef.now) (λ x y said. search rules)
