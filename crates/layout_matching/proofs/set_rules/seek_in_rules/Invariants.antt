use Rattle.std.proofs.Common.{◌≡◌, ◌≤◌, ◌-◌, IfSome, None}
use Rattle.layout_matching.specs.Glance.{glances_in}
use Rattle.layout_matching.specs.Loops.{steps}
use Rattle.layout_matching.specs.Sought.{rule_sought, rules_sought, unfound, unless_found}
use Rattle.layout_matching.specs.Work.{IsBeside, has_classes}
use Rattle.layout_matching.proofs.set_rules.seek_in_rules.Given as goal

-- what the rules from here on give is what all give
abbrev pub invariant-loop-r : goal.invariant-loop-r
invariant-loop-r l = record {
  within : l.r ≤ l.count;
  made : rules_sought l.lookup l.items l.origin l.set.subtable l.set.place l.fn.paid.left
      ≡ steps (unless_found (rule_sought l.lookup l.items l.origin l.set.subtable l.set.place)) (l.count - l.r) l.r (unfound l.paid.left);
  around : IfSome l.around (λ g. g ≡ glances_in l.lookup l.items l.origin l.set.subtable);
  known : IfSome l.paid.known (IsBeside l.lookup (has_classes l.lookup l.set.subtable) l.items l.origin.at);
  none : l.sought.found ≡ None;
}

abbrev pub decreases-loop-r : goal.decreases-loop-r
decreases-loop-r l = l.count - l.r
