use Rattle.std.proofs.Common.{◌≡◌, take}
use Rattle.apple_substitution.specs.FeatureMap.{features_in}
use Rattle.apple_substitution.proofs.feature_map.features_in.Given as goal

abbrev pub invariant-loop-i : goal.invariant-loop-i
invariant-loop-i l = l.features.items ≡ features_in l.cluster (take l.i l.choices)
