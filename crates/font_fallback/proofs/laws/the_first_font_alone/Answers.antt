use Rattle.font_fallback.proofs.AloneLemmas.{alone}
use Rattle.font_fallback.proofs.laws.the_first_font_alone.Goals as goal

pub returns : goal.returns
returns c = alone
