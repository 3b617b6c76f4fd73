use Rattle.std.proofs.Common.{◌≡◌, ◌-◌}
use Rattle.layout_matching.specs.Sought.{rules_in}
use Rattle.layout_matching.specs.Tried.{until_matched, rule_reach_in, rules_reach}
use Rattle.layout_matching.proofs.reaching.rules_reach.Given as goal

abbrev pub invariant-loop-r : goal.invariant-loop-r
invariant-loop-r l = rules_reach l.lookup l.items l.origin l.set.subtable l.set.place l.way l.fn.start
    ≡ until_matched (rule_reach_in l.lookup l.items l.origin l.set.subtable l.way l.set.place) (rules_in l.lookup l.set.place - l.r) l.r l.reach
