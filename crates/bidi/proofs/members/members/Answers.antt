use Rattle.std.proofs.Common.{◌∙◌, sym, arith}
use Rattle.bidi.proofs.MembersLemmas.{member_removed}
use Rattle.bidi.proofs.members.members.Goals as goal

pub loop-i-preserved-then-is_removed : goal.loop-i-preserved-then-is_removed
loop-i-preserved-then-is_removed c =
    member_removed c.args.base c.loop-i.before c.loop-i.i c.args.text.now c.args.classes.now c.args.placed.now c.loop-i.members.items
    (omega arith) (omega arith) (omega arith) (sym c.is_removed.ensures ∙ c.if-is_removed.true) ∙ c.loop-i.invariant
