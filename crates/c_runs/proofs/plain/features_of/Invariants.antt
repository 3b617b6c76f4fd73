use Rattle.std.proofs.Common.{◌≡◌, map, take}
use Rattle.c_runs.specs.Numbers.{feature_of_c}
use Rattle.c_runs.proofs.plain.features_of.Given as goal

abbrev pub invariant-loop-feature : goal.invariant-loop-feature
invariant-loop-feature l = l.list.items ≡ map feature_of_c (take l.feature-index l.features)
