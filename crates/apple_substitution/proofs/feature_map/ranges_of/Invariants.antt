use Rattle.std.proofs.Common.{◌≡◌, ◌++◌, ◌-◌, map}
use Rattle.apple_substitution.specs.FeatureMap.{ranges_from, ranges_of}
use Rattle.apple_substitution.specs.FeatureRanges.{request_of}
use Rattle.apple_substitution.proofs.feature_map.ranges_of.Given as goal

abbrev pub invariant-loop-i : goal.invariant-loop-i
invariant-loop-i l = map request_of l.ranges.items ++ ranges_from l.choices (l.most - l._i) l.cluster ≡ ranges_of l.choices
