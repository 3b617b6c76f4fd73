use Rattle.std.proofs.Common.{None, refl}
use Rattle.layout_positions.proofs.UncoveredLemmas.{subtable_passed}
use Rattle.layout_positions.proofs.subtables.try_subtable.Goals as goal

pub returns-then-not-may_begin_at-clause-step : goal.returns-then-not-may_begin_at-clause-step
returns-then-not-may_begin_at-clause-step c =
    let carried = c.args.carried.now in
    subtable_passed c.args.indexed.now.lookup.now c.args.i c.args.k carried.left carried.seen c.args.buffer.now None refl
    c.if-lookup.true (c.may_begin_at.ensures c.if-not-may_begin_at.true)
