use Rattle.std.proofs.Common.{sym, ◌∙◌}
use Rattle.layout_positions.proofs.KnownLemmas.{known_tried}
use Rattle.layout_positions.proofs.known.try_known.Goals as goal

pub returns-then-is_out-clause-step : goal.returns-then-is_out-clause-step
returns-then-is_out-clause-step c =
    let placed = c.args.tried.placed in
    known_tried c.args.lookup.now c.args.i c.args.k c.args.buffer.now placed.next placed.carried.seen placed.carried.left c.args.tried.out
    c.requires.out (sym c.is_out.ensures ∙ c.if-is_out.true)
