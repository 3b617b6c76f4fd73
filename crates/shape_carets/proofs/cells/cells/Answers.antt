use Rattle.std.proofs.Common.{pos, ◌++◌, sym, ap, subst, ◌∙◌}
use Rattle.std.proofs.lemmas.List.{drop_all}
use Rattle.shape_carets.specs.Cells.{cells_after, Rises}
use Rattle.shape_carets.proofs.CellLemmas.{cells_rise}
use Rattle.shape_carets.proofs.cells.cells.Goals as goal

pub returns-clause-rise : goal.returns-clause-rise
returns-clause-rise c =
    let cell = c.loop-cluster.cell in
    let none = drop_all c.loop-cluster.cluster-index c.args.clusters.now c.loop-cluster-test.false in
    let are = c.in_ok-push.ensures.items
    ∙ ap (λ l. c.loop-cluster.cells.items ++ cells_after c.args.backward c.args.text_end cell.offset cell.advance l) (sym none)
    ∙ c.loop-cluster.invariant in
    subst (Rises c.args.text_end) (sym are)
    (cells_rise c.args.backward c.args.text_end c.args.text_start (pos 0) c.args.clusters.now c.if-text_end-text_start.false)
