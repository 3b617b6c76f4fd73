use Rattle.std.proofs.Common.{◌≡◌, map, take}
use Rattle.apple_substitution.specs.FeatureRanges.{looks, request_of}
use Rattle.apple_substitution.specs.Languages.{spoken_of}
use Rattle.apple_substitution.proofs.feature_ranges.looks.Given as goal

abbrev pub invariant-loop-i : goal.invariant-loop-i
invariant-loop-i l = l.looks ≡ looks (spoken_of l.languages) (map request_of (take l.i l.features))
