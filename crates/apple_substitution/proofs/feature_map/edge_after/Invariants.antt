use Rattle.std.proofs.Common.{◌≡◌, take}
use Rattle.apple_substitution.specs.FeatureMap.{edge_after}
use Rattle.apple_substitution.proofs.feature_map.edge_after.Given as goal

abbrev pub invariant-loop-i : goal.invariant-loop-i
invariant-loop-i l = l.nearest ≡ edge_after l.cluster (take l.i l.choices)
