use Rattle.std.proofs.Common.{sym, ◌∙◌}
use Rattle.shape_carets.proofs.CellLemmas.{begun-on}
use Rattle.shape_carets.proofs.cells.add.Goals as goal

pub returns : goal.returns
returns c = λ rest.
    rw c.begun.ensures (begun-on c.args.backward c.args.text_end c.args.cell.offset c.args.cell.advance c.args.cluster rest c.args.cells.now.items
    c.push.new.self.items (sym c.begins.ensures ∙ c.if-not-begins.false) c.in_ok-push.ensures.items)
