use Rattle.apple_substitution.proofs.InsertionLemmas.{inserted_next}
use Rattle.apple_substitution.proofs.insertion.insert_all.Goals as goal

pub loop-i-preserved : goal.loop-i-preserved
loop-i-preserved c = record {
  made = inserted_next c.args.morx.now c.args.from c.args.model.now c.copy.result c.args.at c.args.count c.loop-i.i
      c.loop-i.buffer c.insert_at.new.buffer _ c.loop-i-test.true c.loop-i.invariant.made c.copy.ensures c.in-Ok.ensures.ok;
}
