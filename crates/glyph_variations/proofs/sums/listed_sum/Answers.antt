use Rattle.std.proofs.Common.{arith}
use Rattle.glyph_variations.proofs.SkipLemmas.{listed_early}
use Rattle.glyph_variations.proofs.sums.listed_sum.Goals as goal

pub returns-then-point-reading : goal.returns-then-point-reading
returns-then-point-reading c =
    let some = c.loop-i-test.true in
    listed_early c.args.bytes.now c.args.points.now c.args.at c.args.point c.args.scalar c.loop-i._i c.loop-i.reading (omega (arith, some))
    c.loop-i.invariant.read c.if-point-reading.true
