use Rattle.std.proofs.Common.{arith}
use Rattle.bidi.proofs.LineLemmas.{lowest_odd-within}
use Rattle.bidi.proofs.lines.lowest_odd.Goals as goal

pub loop-i-init : goal.loop-i-init
loop-i-init c = record {
  same = omega (arith, lowest_odd-within c.args.levels.now);
  within = omega arith;
}
