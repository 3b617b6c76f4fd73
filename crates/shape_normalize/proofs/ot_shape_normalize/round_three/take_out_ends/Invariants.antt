use Rattle.std.proofs.Common.{◌≡◌}
use Rattle.shape_normalize.proofs.RoundThree.TakenOutLemmas.{AreKept}
use Rattle.shape_normalize.proofs.ot_shape_normalize.round_three.take_out_ends.Given as goal

abbrev pub invariant-loop-place : goal.invariant-loop-place
invariant-loop-place l = record {
  walked : AreKept l.spans l.fn.buffer.items l.place l.buffer.items l.kept l.taken;
  rest : l.buffer ≡ record l.fn.buffer { items = l.buffer.items };
}
