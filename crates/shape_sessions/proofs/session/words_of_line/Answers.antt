use Rattle.std.proofs.Common.{◌∙◌, ap, lit<, refl}
use Rattle.shape_sessions.proofs.LineLemmas.{without_end-stripped}
use Rattle.shape_sessions.specs.Lines.{without_end}
use Rattle.shape_sessions.specs.Words.{words}
use Rattle.shape_sessions.proofs.session.words_of_line.Goals as goal

pub returns : goal.returns
returns c =
    let read = c.in-Ok.ensures.cases in
    let fed = without_end-stripped 10 c.in-Ok.line.now c.strip_suffix.result c.in-Ok.line c.strip_suffix.ensures.cases (lit< tt) refl in
    let returned = without_end-stripped 13 c.unwrap_or-line.result.now c.strip_suffix-2.result c.unwrap_or-line.result c.strip_suffix-2.ensures.cases (lit< tt) refl in
    let first = ap (λ l. l.now) c.unwrap_or-line.ensures ∙ fed ∙ ap (without_end 10) read.0 in
    (read.1, ap words (c.new.ensures ∙ ap (λ l. l.now) c.unwrap_or-line-2.ensures ∙ returned ∙ ap (without_end 13) first))
