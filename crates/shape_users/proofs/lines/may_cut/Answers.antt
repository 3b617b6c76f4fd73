use Rattle.std.proofs.Common.{◌≡◌, ◌∙◌, sym, rules}
use Rattle.shape_common.specs.Direction.{is_backward}
use Rattle.shape_users.specs.Lines.{cut_at}
use Rattle.shape_users.proofs.LineLemmas.{each_answers}
use Rattle.shape_users.proofs.lines.may_cut.Goals as goal

pub returns-clause-each : goal.returns-clause-each
returns-clause-each c = λ ordered one k d within is.
    let answer : c.unwrap_or.result ≡ cut_at c.args.cluster c.args.glyphs.now.items = search rules in
    each_answers (is_backward c.args.glyphs.now.direction) c.args.cluster c.args.glyphs.now.items ordered one k d within is ∙ sym answer
