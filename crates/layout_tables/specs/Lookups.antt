-- Lookups (OpenType, "OpenType Layout Common Table Formats", Lookup List and Lookup Table).
use Rattle.std.specs.Prelude.{ℕ, List, Option, Some, None, ◌+◌, ◌*◌, nat_eq, nat_le, if◌then◌else◌}
use Rattle.std.specs.Option.{option_map, option_and_then, option_map_or}
use Rattle.shape_font.specs.Bytes.{u16_of, fitting}
use Rattle.layout_tables.specs.Offsets.{offset16_of, offset32_of, header_offset_of}
use Rattle.layout_tables.specs.declared.lookups.LookupSubtable.{LookupSubtable}

abbrev pub lookups_at : List ℕ → ℕ → ℕ
lookups_at t list = fitting t (u16_of t list) (list + 2) 2

abbrev pub lookup_count_of : List ℕ → ℕ
lookup_count_of t = option_map_or (lookups_at t) (header_offset_of t 8) 0

-- where the Lookup table with this index stands
abbrev pub lookup_of : List ℕ → ℕ → Option ℕ
lookup_of t index = if nat_le (lookup_count_of t) index then None
    else option_and_then (λ list. offset16_of t list (list + 2 + 2 * index)) (header_offset_of t 8)

-- its type, its flags, and how many subtables it has
abbrev pub lookup_type_of : List ℕ → ℕ → ℕ
lookup_type_of t lookup = u16_of t lookup

abbrev pub lookup_flag_of : List ℕ → ℕ → ℕ
lookup_flag_of t lookup = u16_of t (lookup + 2)

abbrev pub subtable_count_of : List ℕ → ℕ → ℕ
subtable_count_of t lookup = fitting t (u16_of t (lookup + 4)) (lookup + 6) 2

-- the index of its mark filtering set, after the offsets of the subtables
abbrev pub mark_filtering_set_of : List ℕ → ℕ → ℕ
mark_filtering_set_of t lookup = u16_of t (lookup + 6 + 2 * u16_of t (lookup + 4))

-- what an extension subtable at `start` stands for, if its format is 1: a type, and a subtable by an Offset32
abbrev pub extended : List ℕ → ℕ → Option LookupSubtable
extended t start = if nat_eq (u16_of t start) 1
    then option_map (λ there. record { kind = u16_of t (start + 2); start = there }) (offset32_of t start (start + 4))
    else None

-- a subtable of type `extension` stands for another one
abbrev pub resolved : List ℕ → ℕ → ℕ → ℕ → Option LookupSubtable
resolved t extension kind start = if nat_eq kind extension then extended t start else Some (record { kind = kind; start = start })

-- subtable `i` of the Lookup table at `lookup`
abbrev pub subtable_of : List ℕ → ℕ → ℕ → ℕ → Option LookupSubtable
subtable_of t extension lookup i =
    option_and_then (resolved t extension (lookup_type_of t lookup)) (offset16_of t lookup (lookup + 6 + 2 * i))
