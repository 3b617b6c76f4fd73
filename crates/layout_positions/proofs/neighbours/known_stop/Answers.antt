use Rattle.std.proofs.Common.{◌≡◌, Some, IfSome, subst}
use Rattle.layout_positions.specs.Lookups.{stop_after}
use Rattle.layout_positions.proofs.StopLemmas.{stop_inside}
use Rattle.layout_positions.proofs.neighbours.known_stop.Goals as goal

pub returns-in-Some-clause-inside : goal.returns-in-Some-clause-inside
returns-in-Some-clause-inside c =
    let l = c.args.lookup.now in
    let known : IfSome (Some c.in-Some.stop) (λ stop. stop ≡ stop_after l c.args.items.now c.args.i) =
    subst (λ o. IfSome o (λ stop. stop ≡ stop_after l c.args.items.now c.args.i)) c.in-Some.is c.requires.known in
    stop_inside l c.args.items.now c.args.i c.in-Some.stop known
