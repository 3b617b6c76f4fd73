-- What ranges of a text mean: in each cluster the settings of its range are those that are chosen there.
use Rattle.std.specs.Prelude.{◌≡◌, ◌<◌, ℕ, List, Bool, Option, Some, nat_le}
use Rattle.std.specs.List.{find}
use Rattle.std.specs.Option.{option_map}
use Rattle.apple_substitution.specs.Chains.{chain_flags}
use Rattle.apple_substitution.specs.FeatureMap.{LAST, features_in, ranges_of}
use Rattle.apple_substitution.specs.FeatureRanges.{Request, flags_of}
use Rattle.apple_substitution.specs.Languages.{Spoken}
use Rattle.apple_substitution.specs.Ranges.{is_on, shares}
use Rattle.apple_substitution.specs.declared.chains.Feature.{Feature}
use Rattle.apple_substitution.specs.declared.feature_map.Choice.{Choice}

-- of a cluster the first range counts that doesn't end before it
abbrev pub reaches : ℕ → Request → Bool
reaches cluster r = nat_le cluster r.last

abbrev pub features_at : ℕ → List Request → Option (List Feature)
features_at cluster rs = option_map (λ (r : Request). r.features) (find (reaches cluster) rs)

abbrev pub RangesHold : Type 0
RangesHold = (cs : List Choice) (cluster : ℕ) → cluster < LAST
    → features_at cluster (ranges_of cs) ≡ Some (features_in cluster cs)

-- a chain has a subtable on in a cluster exactly by its flags by those settings, whatever the languages are
abbrev pub ChainsHold : Type 0
ChainsHold = (t : List ℕ) (l : Spoken) (chain : ℕ) (cs : List Choice) (wanted cluster : ℕ) → cluster < LAST
    → is_on (flags_of t l chain (ranges_of cs)) wanted cluster ≡ shares (chain_flags t l (features_in cluster cs) chain) wanted
