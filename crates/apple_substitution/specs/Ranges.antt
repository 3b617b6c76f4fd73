-- Features in ranges of a text: each range ends with a cluster, and has the flags of the features that are on there. Of a glyph
-- the first range counts that doesn't end before it.
use Rattle.std.specs.Prelude.{ℕ, List, Bool, ◌+◌, ◌*◌, min, length, not, nat_eq, nat_lt, slice_index_or, if◌then◌else◌}
use Rattle.std.specs.Int.RustNames.{bit_and}
use Rattle.std.specs.List.{prefix_len}
use Rattle.shape_items.specs.Buffer.{Buffer, most_countable}
use Rattle.apple_substitution.specs.declared.ranges.FlagRange.{FlagRange}

abbrev pub shares : ℕ → ℕ → Bool
shares a b = not (nat_eq (bit_and a b) 0)

abbrev pub ends_before : ℕ → FlagRange → Bool
ends_before cluster range = nat_lt range.last cluster

abbrev pub place_of : List FlagRange → ℕ → ℕ
place_of ranges cluster = prefix_len (ends_before cluster) ranges

-- the flags of a range, none past the last one
abbrev pub flags_at : List FlagRange → ℕ → ℕ
flags_at ranges i = if nat_lt i (length ranges) then (slice_index_or ranges i (record { last = 0; flags = 0 })).flags else 0

-- a subtable is on for a glyph if the flags of its range share one with those of the subtable
abbrev pub is_on : List FlagRange → ℕ → ℕ → Bool
is_on ranges wanted cluster = shares (flags_at ranges (place_of ranges cluster)) wanted

-- what a step at a glyph costs, in looks at a glyph: a class or a value is searched for, and entries are read
abbrev pub STEP_WORK : ℕ
STEP_WORK = 16

-- what a walk costs: a step at each glyph, and a look at each range there
abbrev pub walk_work : ℕ → Buffer → ℕ
walk_work ranges b = min (length b.items * (STEP_WORK + ranges)) most_countable
