-- names of glyphs: charsets and strings (Adobe Technical Note 5176, sections 10 and 13)
use Prim.Native.Nat.{zero}
use Rattle.std.specs.Prelude.{ℕ, suc, List, Bool, false, Option, ◌+◌, ◌-◌, ◌*◌, ◌&&◌, nat_eq, nat_lt, nat_le, if◌then◌else◌, slice_index}
use Rattle.std.specs.Option.{option_map_or}
use Rattle.cff_tables.specs.Bytes.{word_of, number_of, part_of, first_at}
use Rattle.cff_tables.specs.Index.{object_of}
use Rattle.cff_tables.specs.declared.predefined.TheConstants.{EXPERT, EXPERT_SUBSET, STANDARD_ENCODING}
use Rattle.cff_tables.specs.declared.strings_text.TheConstants.{STARTS, TEXT}

-- formats 1 and 2: a range begins with the name of its first glyph, and how many follow takes so many bytes
abbrev pub left_size : ℕ → ℕ
left_size format = if nat_eq format 1 then 1 else 2

abbrev pub left_of : List ℕ → ℕ → ℕ → ℕ
left_of t format at = number_of t (at + 2) (left_size format)

-- the name of a glyph, counted from the first of the range at a place: ranges have names in a row
abbrev pub ranged_name : ℕ → List ℕ → ℕ → ℕ → ℕ → ℕ
ranged_name zero t format at glyph = 0
ranged_name (suc n) t format at glyph = if nat_le glyph (left_of t format at) then word_of t at + glyph
    else ranged_name n t format (at + 2 + left_size format) (glyph - (left_of t format at + 1))

-- a charset that the font has, from its format on: of all glyphs but the first, which is .notdef
abbrev pub own_name : List ℕ → ℕ → ℕ → ℕ
own_name t at glyph = let format = slice_index t at in
    (if nat_eq glyph 0 then 0
    else (if nat_eq format 0 then word_of t (at + 1 + 2 * (glyph - 1))
    else (if nat_le format 2 then ranged_name (glyph - 1 + 1) t format (at + 1) (glyph - 1) else 0)))

-- charsets 0, 1 and 2 are ISOAdobe, Expert and Expert Subset; ISOAdobe has names 0 to 228 in a row
abbrev pub name_number : List ℕ → ℕ → ℕ → ℕ
name_number t charset glyph = if nat_eq charset 0 then (if nat_le glyph 228 then glyph else 0)
    else (if nat_eq charset 1 then slice_index EXPERT glyph
    else (if nat_eq charset 2 then slice_index EXPERT_SUBSET glyph else own_name t charset glyph))

-- the string with a number: one of the 391 standard ones, or one of the font's
abbrev pub string_of : List ℕ → ℕ → ℕ → Option (List ℕ)
string_of t strings name = if nat_lt name 391 then part_of TEXT.now (slice_index STARTS name) (slice_index STARTS (name + 1))
    else object_of t false strings (name - 391)

-- whether the range at a place has the name
abbrev pub has_name : List ℕ → ℕ → ℕ → ℕ → Bool
has_name t format at name = nat_le (word_of t at) name && nat_le (name - word_of t at) (left_of t format at)

-- the glyph of a name in the ranges from a place on, of which the first begins with `glyph`: the first range that has it
abbrev pub ranged_glyph : ℕ → List ℕ → ℕ → ℕ → ℕ → ℕ → ℕ → ℕ
ranged_glyph zero t format count name at glyph = 0
ranged_glyph (suc n) t format count name at glyph = if nat_le count glyph then 0
    else (if has_name t format at name then glyph + (name - word_of t at)
    else ranged_glyph n t format count name (at + 2 + left_size format) (glyph + left_of t format at + 1))

-- the glyph of a name in format 0: the first that has it
abbrev pub listed_glyph : List ℕ → ℕ → ℕ → ℕ → ℕ
listed_glyph t at count name = option_map_or (λ i. i + 1) (first_at (λ i. nat_eq (word_of t (at + 2 * i)) name) (count - 1) 0) 0

-- the glyph of a name in a charset that the font has; 0 if none of the font's glyphs has it
abbrev pub own_glyph : List ℕ → ℕ → ℕ → ℕ → ℕ
own_glyph t at count name = let format = slice_index t at in
    (if nat_eq format 0 then listed_glyph t (at + 1) count name
    else (if nat_le format 2 then ranged_glyph count t format count name (at + 1) 1 else 0))

-- the glyph of a code of Standard Encoding. HarfBuzz finds none in the Expert charsets, nor for a code past 228 in ISOAdobe
abbrev pub coded_glyph : List ℕ → ℕ → ℕ → ℕ → ℕ
coded_glyph t charset count code = let name = slice_index STANDARD_ENCODING code in
    (if nat_eq name 0 then 0
    else (if nat_eq charset 0 then (if nat_le code 228 then name else 0)
    else (if nat_le charset 2 then 0 else own_glyph t charset count name)))
