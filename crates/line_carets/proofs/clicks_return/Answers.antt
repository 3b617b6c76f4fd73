use Rattle.shape_carets.proofs.LawLemmas.{returns-to}
use Rattle.line_carets.specs.LineCarets.{all_carets, line_carets}
use Rattle.line_carets.proofs.SettledLemmas.{settled-rise}
use Rattle.line_carets.proofs.clicks_return.Goals as goal

pub returns-clause-rise : goal.returns-clause-rise
returns-clause-rise c = λ stops runs logical. settled-rise (all_carets stops runs logical)

pub returns-clause-clicks : goal.returns-clause-clicks
returns-clause-clicks c = λ stops runs logical k offset x lt differ stands near.
    returns-to (line_carets stops runs logical) k offset x (settled-rise (all_carets stops runs logical)) lt differ stands near
