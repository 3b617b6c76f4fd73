use Rattle.shape_carets.proofs.PlaceLemmas.{nearest-next, nearest-stays}
use Rattle.shape_carets.proofs.places.nearest.Goals as goal
use Rattle.shape_carets.proofs.places.nearest.Goals.{then-is_as_near, else-is_as_near}

pub loop-place-preserved : goal.loop-place-preserved
loop-place-preserved c =
    elim c.if-is_as_near.branch [
      | then-is_as_near w ↦ rw w.nearest-is (nearest-next _ _ _ _ c.loop-place.invariant (c.is_as_near.ensures.0 w.if-is_as_near.true))
      | else-is_as_near w ↦ rw w.nearest-is (nearest-stays _ _ _ _ c.loop-place.invariant (λ near.
          let yes_it_is = c.is_as_near.ensures.1 near in let no_it_is = w.if-is_as_near.false in cc))
    ]
