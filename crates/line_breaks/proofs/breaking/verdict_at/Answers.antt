use Rattle.std.proofs.Common.{◌∙◌}
use Rattle.line_breaks.proofs.BreakLemmas.{verdict_step}
use Rattle.line_breaks.proofs.breaking.verdict_at.Goals as goal

pub returns : goal.returns
returns c = λ done rest unit is_before long drops.
    c.decide.ensures
    ∙ verdict_step c.args.units.now done rest unit _ c.args.place c.args.before c.letter_at.result c.letter_at-2.result c.if-place-eq0.false is_before long drops
    c.letter_at.ensures c.letter_at-2.ensures
