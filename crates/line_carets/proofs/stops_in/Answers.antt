use Rattle.std.proofs.Common.{arith}
use Rattle.line_carets.proofs.StopLemmas.{carets-same}
use Rattle.line_carets.proofs.stops_in.Goals as goal

pub returns-clause-same : goal.returns-clause-same
returns-clause-same c = λ backward clusters.
    let stops = c.args.stops.now in
    carets-same stops c.args.start c.args.end c.first_from-first.result c.max-last.result (omega arith) (omega arith)
    (λ k lt. c.first_from-first.ensures.below k lt)
    (λ k ge lt. c.first_from.ensures.reached k (omega arith) lt)
    backward clusters
