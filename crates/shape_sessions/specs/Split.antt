-- The program's decompositions in one step.
use Rattle.std.specs.Prelude.{ℕ, zero, suc, length, ◌==◌, ◌&&◌, ◌||◌, not, Bool, Option, Some, None, option_and_then, if◌then◌else◌}
use Rattle.std.specs.List.{find}
use Rattle.std.specs.Option.{option_map, option_map_or}
use Rattle.shape_sessions.specs.Category.{is_marked}
use Rattle.shape_sessions.specs.declared.unicode_tables.split.TheConstants.{SPLITS}

-- the parts that the table has for c
abbrev pub split_in_table : ℕ → Option (ℕ × ℕ)
split_in_table c = option_map (λ entry. (entry.1, entry.2)) (find (λ entry. entry.0 == c) SPLITS)

-- a mark has only marks as parts, U+0000 aside
abbrev pub preserves_marks : ℕ → ℕ × ℕ → Bool
preserves_marks c parts = (is_marked parts.0 && (parts.1 == 0 || is_marked parts.1)) || not (is_marked c)

-- the parts of c: those of the table, if they keep marks
abbrev pub split_of : ℕ → Option (ℕ × ℕ)
split_of c = option_and_then (λ parts. if preserves_marks c parts then Some parts else None) (split_in_table c)

-- how often the table splits a character and then its first parts, up to a limit
abbrev pub splits_within : ℕ → ℕ → ℕ
splits_within zero c = 0
splits_within (suc limit) c = option_map_or (λ parts. suc (splits_within limit parts.0)) (split_in_table c) 0

-- the height that falls along splits; no chain is longer than the table
abbrev pub height_of : ℕ → ℕ
height_of c = splits_within (length SPLITS) c
