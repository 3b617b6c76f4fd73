-- Searches by midpoints, and glyphs of characters before variation selectors, on tables that were read by hand.
use Rattle.std.specs.Prelude.{◌≡◌, ℕ, List, [], ◌∷◌, ◌+◌, ◌*◌, Some, None, Option, refl, slice_index}
use Rattle.shape_font.specs.Search.{side_of, side_from_end, found_by, walked}
use Rattle.shape_font.specs.Variations.{sequences_of, variation_of}
use Rattle.shape_font.specs.declared.variations.GlyphVariant.TheVariants.{Missing, Default, Own}

-- ranges 0 .. 5, 10 .. 15, 20 .. 25 and so on
abbrev pub found_in_tens : ℕ → ℕ → Option ℕ
found_in_tens count n = found_by (λ i. side_of n (10 * i) (10 * i + 5)) count

-- numbers out of order
abbrev pub found_among : List ℕ → ℕ → ℕ → Option ℕ
found_among numbers count n = found_by (λ i. side_of n (slice_index numbers i) (slice_index numbers i)) count

pub record WorkedSearches : Type 0 where
  pub first : found_in_tens 5 0 ≡ Some 0
  pub end_of_the_first : found_in_tens 5 5 ≡ Some 0
  pub between : found_in_tens 5 6 ≡ None
  pub second : found_in_tens 5 10 ≡ Some 1
  pub last : found_in_tens 5 45 ≡ Some 4
  pub after_the_last : found_in_tens 5 46 ≡ None
  pub past_the_count : found_in_tens 4 45 ≡ None
  pub nowhere : found_in_tens 0 0 ≡ None
  -- the middle of two is the left one, that of four the second
  pub first_of_two : found_among (7 ∷ 7 ∷ []) 2 7 ≡ Some 0
  pub second_of_four : found_among (7 ∷ 7 ∷ 7 ∷ 7 ∷ []) 4 7 ≡ Some 1
  -- out of order: 30 stands at the left of 10, on whose right it is sought
  pub out_of_order : found_among (30 ∷ 10 ∷ 20 ∷ []) 3 30 ≡ None
  pub out_of_order_walked : walked (λ i. slice_index (30 ∷ 10 ∷ 20 ∷ []) i) (λ i. slice_index (30 ∷ 10 ∷ 20 ∷ []) i) 3 30 ≡ Some 0
  pub walk_between : walked (λ i. 10 * i) (λ i. 10 * i + 5) 5 6 ≡ None
  pub walk_to_the_second : walked (λ i. 10 * i) (λ i. 10 * i + 5) 5 15 ≡ Some 1
  -- a range from 9 to 3: one search asks first whether 5 is before its start, the other whether it is after its end
  pub before_the_start : found_by (λ i. side_of 5 (slice_index (9 ∷ 5 ∷ []) i) (slice_index (3 ∷ 5 ∷ []) i)) 2 ≡ None
  pub after_the_end : found_by (λ i. side_from_end 5 (slice_index (9 ∷ 5 ∷ []) i) (slice_index (3 ∷ 5 ∷ []) i)) 2 ≡ Some 1

pub worked_searches : WorkedSearches
worked_searches = record {
  first = refl;
  end_of_the_first = refl;
  between = refl;
  second = refl;
  last = refl;
  after_the_last = refl;
  past_the_count = refl;
  nowhere = refl;
  first_of_two = refl;
  second_of_four = refl;
  out_of_order = refl;
  out_of_order_walked = refl;
  walk_between = refl;
  walk_to_the_second = refl;
  before_the_start = refl;
  after_the_end = refl;
}

-- format 14 of three selectors. U+FE00: U+0041..0042 look as they do alone. U+FE01: U+0041 has glyph 7, U+0042 none,
-- U+1F600 glyph 9. U+E0100: both. So
-- many selectors, and rows of glyphs, are stated
abbrev pub stated_selectors : ℕ → ℕ → List ℕ
stated_selectors selectors rows = 0 ∷ 14 ∷ 0 ∷ 0 ∷ 0 ∷ 70 ∷ 0 ∷ 0 ∷ 0 ∷ selectors
    ∷ 0 ∷ 0xFE ∷ 0x00 ∷ 0 ∷ 0 ∷ 0 ∷ 43 ∷ 0 ∷ 0 ∷ 0 ∷ 0
    ∷ 0 ∷ 0xFE ∷ 0x01 ∷ 0 ∷ 0 ∷ 0 ∷ 0 ∷ 0 ∷ 0 ∷ 0 ∷ 51
    ∷ 0x0E ∷ 0x01 ∷ 0x00 ∷ 0 ∷ 0 ∷ 0 ∷ 43 ∷ 0 ∷ 0 ∷ 0 ∷ 51
    ∷ 0 ∷ 0 ∷ 0 ∷ 1 ∷ 0 ∷ 0 ∷ 0x41 ∷ 1
    ∷ 0 ∷ 0 ∷ 0 ∷ rows ∷ 0 ∷ 0 ∷ 0x41 ∷ 0 ∷ 7 ∷ 0 ∷ 0 ∷ 0x42 ∷ 0 ∷ 0 ∷ 1 ∷ 0xF6 ∷ 0 ∷ 0 ∷ 9 ∷ []

abbrev pub three_selectors : List ℕ
three_selectors = stated_selectors 3 3

-- format 14 of one selector, U+FE00, with 65536 times so much added to the offsets of its two parts, and each count stated as
-- 65536: U+0042 has glyph 263, U+1F600..1F601 look as they do alone
abbrev pub one_selector : ℕ → ℕ → List ℕ
one_selector ranges rows = 0 ∷ 14 ∷ 0 ∷ 0 ∷ 0 ∷ 38 ∷ 0 ∷ 1 ∷ 0 ∷ 0
    ∷ 0 ∷ 0xFE ∷ 0x00 ∷ 0 ∷ ranges ∷ 0 ∷ 30 ∷ 0 ∷ rows ∷ 0 ∷ 21
    ∷ 0 ∷ 1 ∷ 0 ∷ 0 ∷ 0 ∷ 0 ∷ 0x42 ∷ 1 ∷ 7
    ∷ 0 ∷ 1 ∷ 0 ∷ 0 ∷ 1 ∷ 0xF6 ∷ 0x00 ∷ 1 ∷ []

-- `cmap` of one subtable, by encoding and format
abbrev pub one_table : ℕ → ℕ → List ℕ
one_table encoding format = 0 ∷ 0 ∷ 0 ∷ 1 ∷ 0 ∷ 0 ∷ 0 ∷ encoding ∷ 0 ∷ 0 ∷ 0 ∷ 12 ∷ 0 ∷ format ∷ []

pub record WorkedVariations : Type 0 where
  pub as_alone : variation_of three_selectors 0x41 0xFE00 ≡ Default
  pub last_as_alone : variation_of three_selectors 0x42 0xFE00 ≡ Default
  pub before_the_range : variation_of three_selectors 0x40 0xFE00 ≡ Missing
  pub after_the_range : variation_of three_selectors 0x43 0xFE00 ≡ Missing
  pub own : variation_of three_selectors 0x41 0xFE01 ≡ Own 7
  pub own_past_plane_0 : variation_of three_selectors 0x1F600 0xFE01 ≡ Own 9
  pub glyph_0_is_none : variation_of three_selectors 0x42 0xFE01 ≡ Missing
  pub no_row : variation_of three_selectors 0x44 0xFE01 ≡ Missing
  pub as_alone_first : variation_of three_selectors 0x41 0xE0100 ≡ Default
  pub own_of_both : variation_of three_selectors 0x1F600 0xE0100 ≡ Own 9
  pub no_record : variation_of three_selectors 0x41 0xFE02 ≡ Missing
  pub no_table : variation_of [] 0x41 0xFE00 ≡ Missing
  pub sequences : sequences_of (one_table 5 14) ≡ 0 ∷ 14 ∷ []
  pub other_format : sequences_of (one_table 5 12) ≡ []
  pub other_encoding : sequences_of (one_table 4 14) ≡ []
  -- an offset of 0 leads to none, not the beginning of the table
  pub no_sequences : variation_of (0 ∷ 14 ∷ 0 ∷ 0 ∷ 0 ∷ 0 ∷ 0 ∷ 0 ∷ 0 ∷ 1 ∷ 0 ∷ 0xFE ∷ 0 ∷ 0 ∷ 0 ∷ 0 ∷ 0 ∷ 0 ∷ 0 ∷ 0 ∷ 0 ∷ []) 0 0xFE00
      ≡ Missing
  pub fewer_selectors : variation_of (stated_selectors 1 3) 0x41 0xFE01 ≡ Missing
  pub fewer_rows : variation_of (stated_selectors 3 2) 0x1F600 0xFE01 ≡ Missing
  pub counts_of_32_bits : variation_of (one_selector 0 0) 0x42 0xFE00 ≡ Own 263
  pub range_past_plane_0 : variation_of (one_selector 0 0) 0x1F601 0xFE00 ≡ Default
  pub range_offset_of_32_bits : variation_of (one_selector 1 0) 0x1F601 0xFE00 ≡ Missing
  pub row_offset_of_32_bits : variation_of (one_selector 0 1) 0x42 0xFE00 ≡ Missing

pub worked_variations : WorkedVariations
worked_variations = record {
  as_alone = refl;
  last_as_alone = refl;
  before_the_range = refl;
  after_the_range = refl;
  own = refl;
  own_past_plane_0 = refl;
  glyph_0_is_none = refl;
  no_row = refl;
  as_alone_first = refl;
  own_of_both = refl;
  no_record = refl;
  no_table = refl;
  sequences = refl;
  other_format = refl;
  other_encoding = refl;
  no_sequences = refl;
  fewer_selectors = refl;
  fewer_rows = refl;
  counts_of_32_bits = refl;
  range_past_plane_0 = refl;
  range_offset_of_32_bits = refl;
  row_offset_of_32_bits = refl;
}
