use Rattle.std.proofs.Common.{rules}
use Rattle.shape_glyphs.specs.Ignorables.{shown_as}
use Rattle.shape_glyphs.proofs.ignorables.replace_or_delete.Goals as goal

pub returns-in-Some : goal.returns-in-Some
returns-in-Some c = rw c.in-Some.is (c.update_items.ensures (shown_as c.in-Some.glyph) (λ x y said. search rules))
