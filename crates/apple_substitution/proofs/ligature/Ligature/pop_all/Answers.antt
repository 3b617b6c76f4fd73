use Rattle.apple_substitution.proofs.LigatureLemmas.{popped_next}
use Rattle.apple_substitution.proofs.ligature.Ligature.pop_all.Goals as goal

pub loop-i-preserved : goal.loop-i-preserved
loop-i-preserved c = record {
  made = popped_next c.args.self.now.morx.now c.args.self.now.start c.args.places.now c.args.first.cursor c.loop-i._i
      (record { buffer = c.loop-i.buffer; popping = c.loop-i.popping })
      (record { buffer = c.pop-popping.new.buffer; popping = c.pop-popping.result })
      _ c.loop-i-test.true c.loop-i.invariant.made c.if-popping.false c.pop-popping.ensures;
}
