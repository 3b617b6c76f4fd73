use Rattle.layout_context.specs.Digested.{MeetsNone}
use Rattle.layout_context.proofs.meeting.unmet.Given as goal

abbrev pub invariant-loop-k : goal.invariant-loop-k
invariant-loop-k l = MeetsNone l.named l.infos l.k
