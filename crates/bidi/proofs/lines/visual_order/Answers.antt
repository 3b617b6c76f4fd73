use Rattle.std.proofs.Common.{subst, sym}
use Rattle.std.specs.List.Sorted.{IsPermutation}
use Rattle.bidi.specs.Lines.{indices}
use Rattle.bidi.proofs.LineLemmas.{order_moves}
use Rattle.bidi.proofs.lines.visual_order.Goals as goal

pub returns-clause-permutation : goal.returns-clause-permutation
returns-clause-permutation c =
    subst (IsPermutation (indices c.args.levels.now)) (sym c.in_ok-order.ensures) (order_moves c.args.levels.now)
