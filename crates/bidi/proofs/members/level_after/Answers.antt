use Rattle.std.proofs.Common.{◌∙◌, sym, arith}
use Rattle.bidi.proofs.MembersLemmas.{after_left, after_removed}
use Rattle.bidi.proofs.members.level_after.Goals as goal

pub loop-i-preserved : goal.loop-i-preserved
loop-i-preserved c =
    sym (after_removed c.args.base c.loop-i.i c.args.classes.now c.args.placed.now (omega arith) (omega arith)
    (sym c.is_removed.ensures ∙ c.if-not-is_removed.false)) ∙ c.loop-i.invariant

pub returns-then-not-is_removed : goal.returns-then-not-is_removed
returns-then-not-is_removed c =
    sym (after_left c.args.base c.loop-i.i c.args.classes.now c.args.placed.now (omega arith) (omega arith)
    (sym c.is_removed.ensures ∙ c.if-not-is_removed.true)) ∙ c.loop-i.invariant
