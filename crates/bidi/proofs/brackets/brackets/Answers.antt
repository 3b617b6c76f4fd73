use Rattle.std.proofs.Common.{◌∙◌, ap, sym}
use Rattle.bidi.specs.Brackets.{n0_from}
use Rattle.bidi.proofs.BracketLemmas.{no_pair}
use Rattle.bidi.proofs.brackets.brackets.Goals as goal

pub returns-then-not-has_pair : goal.returns-then-not-has_pair
returns-then-not-has_pair c =
    sym (
    no_pair c.args.embedding c.args.sos c.args.members.now 0 c.deref.result.now c.args.classes.now (sym c.has_pair.ensures ∙ c.if-not-has_pair.true)
    )
    ∙ ap (λ l. n0_from c.args.embedding c.args.members.now 0 c.args.sos l c.args.classes.now) (c.deref.ensures.value ∙ c.in_ok-closes.ensures)
