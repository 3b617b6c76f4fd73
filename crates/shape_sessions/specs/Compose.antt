-- The program's compositions in one step.
use Rattle.std.specs.Prelude.{ℕ, ◌==◌, ◌&&◌, Bool, false, Option, Some, None, option_and_then, if◌then◌else◌}
use Rattle.std.specs.List.{find}
use Rattle.std.specs.Option.{option_map}
use Rattle.shape_sessions.specs.Split.{split_of}
use Rattle.shape_sessions.specs.declared.unicode_tables.compose.TheConstants.{COMPOSITES}

-- the character that the table has for a and b
abbrev pub compose_in_table : ℕ → ℕ → Option ℕ
compose_in_table a b = option_map (λ entry. entry.2) (find (λ entry. entry.0 == a && entry.1 == b) COMPOSITES)

-- whether these are the parts
abbrev pub is_split_into : ℕ → ℕ → Option (ℕ × ℕ) → Bool
is_split_into a b None = false
is_split_into a b (Some parts) = parts.0 == a && parts.1 == b

-- the character of the table, if it splits into a and b again
abbrev pub compose_of : ℕ → ℕ → Option ℕ
compose_of a b = option_and_then (λ c. if is_split_into a b (split_of c) then Some c else None) (compose_in_table a b)
