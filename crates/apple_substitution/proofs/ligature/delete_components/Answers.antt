use Rattle.apple_substitution.proofs.LigatureLemmas.{deleted_next}
use Rattle.apple_substitution.proofs.ligature.delete_components.Goals as goal

pub loop-k-preserved : goal.loop-k-preserved
loop-k-preserved c = deleted_next c.args.places.now c.loop-k.k c.args.to c.place_in.result c.loop-k.buffer c.delete.new.buffer _
    c.loop-k-test.true c.loop-k.invariant c.place_in.ensures c.delete.ensures
