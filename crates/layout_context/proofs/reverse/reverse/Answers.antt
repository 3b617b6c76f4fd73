use Rattle.std.proofs.Common.{length}
use Rattle.layout_matching.proofs.LoopLemmas.{times_step}
use Rattle.layout_context.specs.Reverse.{Backwards, reverse_step}
use Rattle.layout_context.proofs.reverse.reverse.Goals as goal

pub loop-i-preserved : goal.loop-i-preserved
loop-i-preserved c =
    let first : Backwards = record { buffer = c.args.buffer.now; at = length c.args.buffer.now.items; left = c.args.left } in
    let here : Backwards = record { buffer = c.loop-i.buffer; at = c.loop-i.back.at; left = c.loop-i.back.left } in
    let there : Backwards = record { buffer = c.reverse_one-back.new.buffer; at = c.reverse_one-back.result.at; left = c.reverse_one-back.result.left } in
    record {
      made = times_step (reverse_step c.args.lookup.now) c.loop-i._i first here there c.loop-i.invariant.made c.reverse_one-back.ensures.step;
      inside = c.reverse_one-back.ensures.inside;
    }
