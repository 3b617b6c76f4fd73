use Rattle.std.proofs.Common.{◌≡◌, ◌-◌, ◌∷◌, [], set, arith, ap, sym, ◌∙◌}
use Rattle.shape_items.specs.Unwritten.{follow}
use Rattle.shape_items.proofs.Unwritten.UnwrittenLemmas.{write_begins, write_step}
use Rattle.shape_items.proofs.clusters.unwritten.write_run.Goals as goal

pub loop-i-init : goal.loop-i-init
loop-i-init c = record { within = omega arith; done = write_begins c.args.infos.now }

pub loop-i-preserved : goal.loop-i-preserved
loop-i-preserved c =
    let y = c.index-infos-i.result in
    let x = c.index-infos-i-in-loop-i.result in
    let e : c.follow.new.info ≡ follow x (y ∷ []) = c.follow.ensures ∙ ap (λ z. follow z (y ∷ [])) (sym c.index-infos-i-in-loop-i.is) in
    record {
      within = omega (arith, c.loop-i.invariant.within);
      done = ap (λ z. set c.loop-i.infos (c.loop-i.i - 1 - 1) z) e
          ∙ write_step c.args.infos.now c.loop-i.infos c.loop-i.i x y c.loop-i-test.true c.loop-i.invariant.within c.loop-i.invariant.done c.index-infos-i.is c.index-infos-i-in-loop-i.is;
    }
