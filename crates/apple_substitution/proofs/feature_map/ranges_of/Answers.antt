use Rattle.std.proofs.Common.{◌≡◌, ◌+◌, ◌*◌, length, true, false, nat_eq, arith}
use Rattle.std.proofs.lemmas.Bool.Decides.{nat_tests}
use Rattle.apple_substitution.specs.FeatureMap.{LAST}
use Rattle.apple_substitution.proofs.MapLemmas.{last_range, next_range}
use Rattle.apple_substitution.proofs.feature_map.ranges_of.Goals as goal

pub returns-then-next-clause-ok : goal.returns-then-next-clause-ok
returns-then-next-clause-ok c =
    let over : nat_eq c.edge_after-next.result LAST ≡ true = grind (arith, nat_tests, c.if-next.true) in
    last_range c.args.choices.now (2 * length c.args.choices.now + 1) c.loop-i._i c.loop-i.cluster c.edge_after-next.result
    c.loop-i.ranges.items c.push.new.self.items c.in_ok-range_at.field-0 _ c.loop-i-test.true c.loop-i.invariant
    c.edge_after-next.ensures over c.in_ok-range_at.ensures.ok c.in_ok-push.ensures.items

pub loop-i-preserved : goal.loop-i-preserved
loop-i-preserved c =
    let goes_on : nat_eq c.edge_after-next.result LAST ≡ false = grind (arith, nat_tests, c.if-next.false) in
    next_range c.args.choices.now (2 * length c.args.choices.now + 1) c.loop-i._i c.loop-i.cluster c.edge_after-next.result
    c.loop-i.ranges.items c.push.new.self.items c.in_ok-range_at.field-0 _ c.loop-i-test.true c.loop-i.invariant
    c.edge_after-next.ensures goes_on c.in_ok-range_at.ensures.ok c.in_ok-push.ensures.items
