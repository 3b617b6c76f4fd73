use Rattle.shape_glyphs.proofs.ExactLemmas.{exact_mark_widths}
use Rattle.shape_glyphs.proofs.laws.mark_widths_are_exact_where_they_fit.Goals as goal

pub returns : goal.returns
returns c = exact_mark_widths
