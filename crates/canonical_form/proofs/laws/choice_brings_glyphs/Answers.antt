use Rattle.canonical_form.proofs.Expanding.ChoiceLemmas.{choice_glyphs}
use Rattle.canonical_form.proofs.laws.choice_brings_glyphs.Goals as goal

pub returns : goal.returns
returns g = choice_glyphs
