use Rattle.std.proofs.Common.{◌∙◌}
use Rattle.line_breaks.proofs.BreakLemmas.{letter-get, letter-past}
use Rattle.line_breaks.proofs.breaking.letter_at.Goals as goal

pub returns-then-place-units : goal.returns-then-place-units
returns-then-place-units c = letter-get c.args.units.now c.args.place _ c.if-place-units.true

pub returns-else-place-units : goal.returns-else-place-units
returns-else-place-units c = c.edge.ensures ∙ letter-past c.args.units.now c.args.place c.if-place-units.false
