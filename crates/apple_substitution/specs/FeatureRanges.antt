-- Features that are asked for in ranges of a text, and the flags of a chain there.
use Rattle.std.specs.Prelude.{ℕ, List, ◌+◌, ◌*◌, length, map, min}
use Rattle.std.specs.List.{sum_by}
use Rattle.shape_items.specs.Buffer.{most_countable}
use Rattle.apple_substitution.specs.Chains.{chain_flags, entry_count}
use Rattle.apple_substitution.specs.Languages.{MOST_LETTERS, Spoken}
use Rattle.apple_substitution.specs.Ranges.{STEP_WORK}
use Rattle.apple_substitution.specs.declared.chains.Feature.{Feature}
use Rattle.apple_substitution.specs.declared.feature_ranges.FeatureRange.{FeatureRange}
use Rattle.apple_substitution.specs.declared.ranges.FlagRange.{FlagRange}

-- features that are asked for up to a cluster, from the end of the range before on
pub record Request : Type 0 where
  pub last : ℕ
  pub features : List Feature

abbrev pub request_of : FeatureRange → Request
request_of range = record { last = range.last; features = range.features.items }

-- there the chain has the flags of these features
abbrev pub flags_in : List ℕ → Spoken → ℕ → Request → FlagRange
flags_in t l chain request = record { last = request.last; flags = chain_flags t l request.features chain }

abbrev pub flags_of : List ℕ → Spoken → ℕ → List Request → List FlagRange
flags_of t l chain requests = map (flags_in t l chain) requests

-- ---- what they cost: each entry of the chain is looked for in each range, among the features there, and may be compared to the
-- ---- language of the text, letter by letter

abbrev pub letter_count : List ℕ → ℕ
letter_count text = min (length text) MOST_LETTERS

abbrev pub looks_in : ℕ → Request → ℕ
looks_in letters request = 1 + letters + length request.features

abbrev pub looks : Spoken → List Request → ℕ
looks l requests = min (sum_by (looks_in (letter_count l.text)) requests) most_countable

abbrev pub flags_work : List ℕ → Spoken → ℕ → List Request → ℕ
flags_work t l chain requests = min (STEP_WORK + entry_count t chain * looks l requests) most_countable
