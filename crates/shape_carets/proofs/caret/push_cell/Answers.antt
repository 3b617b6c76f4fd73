use Rattle.std.proofs.Common.{◌++◌, sym, ap, ◌∙◌, rules, FitsSigned, to_z, of_z}
use Rattle.std.proofs.lemmas.Int.{to_z-of_z}
use Rattle.std.proofs.lemmas.List.{append-nil, drop_all}
use Rattle.shape_carets.specs.Carets.{spread, cell_carets}
use Rattle.shape_carets.proofs.SpreadLemmas.{push-spread}
use Rattle.shape_carets.proofs.caret.push_cell.Goals as goal
use mir.Syntax.{w32}

pub loop-stop-preserved : goal.loop-stop-preserved
loop-stop-preserved c =
    let fits : FitsSigned w32 c.sum-x.result = search rules in
    let is = to_z-of_z w32 c.sum-x.result fits ∙ c.sum-x.ensures in
    push-spread (to_z w32 c.loop-stop.x-bits) (to_z w32 (of_z w32 c.sum-x.result)) (to_z w32 (of_z w32 c.part_of-step.result)) c.args.inside.now c.loop-stop.stop-index
    c.loop-stop.carets.items _ _ c.loop-stop-test.true is c.in_ok-push-2.ensures.items c.loop-stop.invariant

pub returns : goal.returns
returns c =
    let step = to_z w32 (of_z w32 c.part_of-step.result) in
    let none = drop_all c.loop-stop.stop-index c.args.inside.now c.loop-stop-test.false in
    sym (append-nil c.loop-stop.carets.items)
    ∙ ap (λ l. c.loop-stop.carets.items ++ spread (to_z w32 c.loop-stop.x-bits) step l) (sym none)
    ∙ c.loop-stop.invariant
    ∙ ap (λ z. c.args.carets.now.items ++ cell_carets c.args.cell z c.args.inside.now) (to_z-of_z w32 c.args.x (search rules))
