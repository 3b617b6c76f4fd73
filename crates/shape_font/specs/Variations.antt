-- glyphs of characters before variation selectors, by format 14 of `cmap`
use Rattle.std.specs.Prelude.{ℕ, List, [], Bool, Option, is_some, ◌+◌, ◌*◌, nat_eq, if◌then◌else◌, slice_index}
use Rattle.std.specs.Option.{option_map_or}
use Rattle.std.specs.declared.cmp.Ordering.{Ordering}
use Rattle.shape_font.specs.Bytes.{u16_of, u24_of, u32_of, fitting}
use Rattle.shape_font.specs.Search.{side_of, found_by}
use Rattle.shape_font.specs.Subtables.{tail_of, subtable_of}
use Rattle.shape_font.specs.declared.variations.GlyphVariant.{GlyphVariant}
use Rattle.shape_font.specs.declared.variations.GlyphVariant.TheVariants.{Missing, Default, Own}

-- the table of sequences: that of Unicode with encoding 5, if its format is 14
abbrev pub sequences_of : List ℕ → List ℕ
sequences_of cmap = option_map_or (λ t. if nat_eq (u16_of t 0) 14 then t else []) (subtable_of cmap 5) []

-- records of 11 bytes, by selector
abbrev pub side_of_selector : List ℕ → ℕ → ℕ → Ordering
side_of_selector t selector i = let there = u24_of t (10 + 11 * i) in side_of selector there there

abbrev pub selector_of : List ℕ → ℕ → Option ℕ
selector_of t selector = found_by (side_of_selector t selector) (fitting t (u32_of t 6) 10 11)

-- what stands at the place that a record names, counted from the start of the table; 0 names none
abbrev pub sequences_from : List ℕ → ℕ → List ℕ
sequences_from t at = let there = u32_of t at in (if nat_eq there 0 then [] else tail_of t there)

-- ranges of 4 bytes: the first character, and how many follow it
abbrev pub side_of_range : List ℕ → ℕ → ℕ → Ordering
side_of_range t c i = let start = u24_of t (4 + 4 * i) in side_of c start (start + slice_index t (7 + 4 * i))

-- whether a character is in one of the ranges
abbrev pub is_default : List ℕ → ℕ → Bool
is_default t c = is_some (found_by (side_of_range t c) (fitting t (u32_of t 0) 4 4))

-- rows of 5 bytes: a character and its glyph
abbrev pub side_of_mapping : List ℕ → ℕ → ℕ → Ordering
side_of_mapping t c i = let there = u24_of t (4 + 5 * i) in side_of c there there

-- the glyph of a character's row, or 0
abbrev pub own_glyph : List ℕ → ℕ → ℕ
own_glyph t c = option_map_or (λ i. u16_of t (7 + 5 * i)) (found_by (side_of_mapping t c) (fitting t (u32_of t 0) 4 5)) 0

-- what the record of the selector says of the character: the ranges first, whose characters look as they do alone
abbrev pub variation_at : List ℕ → ℕ → ℕ → GlyphVariant
variation_at t c i = if is_default (sequences_from t (13 + 11 * i)) c then Default
    else (let glyph = own_glyph (sequences_from t (17 + 11 * i)) c in (if nat_eq glyph 0 then Missing else Own glyph))

-- a selector without a record says nothing
abbrev pub variation_of : List ℕ → ℕ → ℕ → GlyphVariant
variation_of t c selector = option_map_or (variation_at t c) (selector_of t selector) Missing
