use Rattle.std.proofs.Common.{◌∙◌, ◌-◌, arith}
use Rattle.apple_positioning.specs.Runs.{source_of}
use Rattle.apple_positioning.proofs.StackLemmas.{popped_ended, popped_next}
use Rattle.apple_positioning.proofs.stacking.pop_all.Goals as goal

pub returns-then-popping-clause-made : goal.returns-then-popping-clause-made
returns-then-popping-clause-made c = popped_ended (source_of c.args.kerning.now) c.args.stack.now.places c.args.stack.now
    (c.args.stack.now.depth - c.loop-i._i) c.loop-i.buffer c.loop-i.popping _ c.loop-i.invariant.made c.if-popping.true

pub loop-i-preserved : goal.loop-i-preserved
loop-i-preserved c = record {
  made = popped_next (source_of c.args.kerning.now) c.args.stack.now.places c.args.stack.now.depth c.loop-i._i
      (record { buffer = c.loop-i.buffer; popping = c.loop-i.popping })
      (record { buffer = c.pop-popping.new.buffer; popping = c.pop-popping.result })
      _ c.loop-i-test.true c.loop-i.invariant.made c.if-popping.false c.pop-popping.ensures.made;
  near = omega (arith, c.loop-i.invariant.near, c.pop-popping.ensures.near);
  items = c.pop-popping.ensures.items ∙ c.loop-i.invariant.items;
  limit = c.pop-popping.ensures.limit ∙ c.loop-i.invariant.limit;
}
