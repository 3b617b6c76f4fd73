-- Feature names (TrueType Reference Manual, "The 'feat' table"): which types of features a font has.
use Rattle.std.specs.Prelude.{ℕ, List, Bool, Option, Some, None, ◌+◌, ◌*◌, nat_eq, if◌then◌else◌}
use Rattle.std.specs.Option.{option_map, option_and_then}
use Rattle.std.specs.declared.cmp.Ordering.{Ordering}
use Rattle.shape_font.specs.Bytes.{u16_of, fitting}
use Rattle.shape_font.specs.Search.{side_of, found_by}
use Rattle.apple_substitution.specs.Ranges.{shares}

-- a table of version 1 says how many records follow its twelve bytes, of twelve bytes each
abbrev pub record_count : List ℕ → ℕ
record_count t = if nat_eq (u16_of t 0) 1 then fitting t (u16_of t 4) 12 12 else 0

abbrev pub record_at : ℕ → ℕ
record_at i = 12 + 12 * i

-- they are in the order of their types
abbrev pub side_of_record : List ℕ → ℕ → ℕ → Ordering
side_of_record t kind i = let there = u16_of t (record_at i) in side_of kind there there

abbrev pub record_of : List ℕ → ℕ → Option ℕ
record_of t kind = option_map record_at (found_by (side_of_record t kind) (record_count t))

-- the font has a type if its record has settings; flag 0x8000 says that these exclude each other
abbrev pub exclusive_at : List ℕ → ℕ → Option Bool
exclusive_at t at = if nat_eq (u16_of t (at + 2)) 0 then None else Some (shares (u16_of t (at + 8)) 0x8000)

abbrev pub exclusive : List ℕ → ℕ → Option Bool
exclusive t kind = option_and_then (exclusive_at t) (record_of t kind)
