use Rattle.std.proofs.Common.{rules}
use Rattle.shape_glyphs.specs.Classes.{without_syllable, syllables_cleared}
use Rattle.shape_glyphs.proofs.syllables.syllabic_clear_var.Goals as goal

pub returns : goal.returns
unfolding syllables_cleared
returns c = c.update_items.ensures without_syllable (λ x y said. search rules)
