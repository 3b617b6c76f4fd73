-- which table of characters of `cmap` is taken (OpenType, `cmap`, encoding records)
use Rattle.std.specs.Prelude.{ℕ, List, [], ◌∷◌, Bool, Option, Some, None, is_some, ◌+◌, ◌*◌, nat_eq, min, length, slice_range, if◌then◌else◌}
use Rattle.std.specs.Option.{option_and_then, unwrap_or}
use Rattle.shape_font.specs.Bytes.{u16_of, u32_of, fitting}
use Rattle.shape_font.specs.Search.{first_at}

-- what stands from a place to the end, nothing past the end
abbrev pub tail_of : List ℕ → ℕ → List ℕ
tail_of bytes at = slice_range bytes (min at (length bytes)) (length bytes)

-- the table of the first record with this platform (times 65536) and encoding; an offset of 0 is none
abbrev pub subtable_of : List ℕ → ℕ → Option (List ℕ)
subtable_of cmap key = option_and_then (λ i. let at = u32_of cmap (8 + 8 * i) in (if nat_eq at 0 then None else Some (tail_of cmap at)))
    (first_at (λ i. nat_eq (u32_of cmap (4 + 8 * i)) key) (fitting cmap (u16_of cmap 2) 4 8) 0)

-- whether the table that is taken is one of symbols
abbrev pub symbols_of : List ℕ → Bool
symbols_of cmap = is_some (subtable_of cmap 0x30000)

-- the first of these that `cmap` has
abbrev pub first_subtable : List ℕ → List ℕ → List ℕ
first_subtable cmap [] = []
first_subtable cmap (key ∷ keys) = unwrap_or (subtable_of cmap key) (first_subtable cmap keys)

-- symbols first, then whole Unicode, then its first plane
abbrev pub preferred_keys : List ℕ
preferred_keys = 0x30000 ∷ 0x3000A ∷ 6 ∷ 4 ∷ 0x30001 ∷ 3 ∷ 2 ∷ 1 ∷ 0 ∷ []

abbrev pub chosen_subtable : List ℕ → List ℕ
chosen_subtable cmap = first_subtable cmap preferred_keys
