use Rattle.std.proofs.Common.{◌≡◌, map, take}
use Rattle.apple_substitution.specs.FeatureRanges.{flags_of, request_of}
use Rattle.apple_substitution.specs.Languages.{spoken_of}
use Rattle.apple_substitution.proofs.feature_ranges.flags_of.Given as goal

abbrev pub invariant-loop-i : goal.invariant-loop-i
invariant-loop-i l = l.flags.items ≡ flags_of l.morx (spoken_of l.languages) l.chain (map request_of (take l.i l.features))
