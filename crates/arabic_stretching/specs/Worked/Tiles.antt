-- Which glyphs are tiles, and how far the word after them goes.
use Rattle.std.specs.Prelude.{◌≡◌, ℕ, true, false, List, [], ◌∷◌, map, refl}
use Rattle.shape_common.specs.declared.general_category.hb_unicode_general_category_t.{hb_unicode_general_category_t}
use Rattle.shape_common.specs.declared.general_category.hb_unicode_general_category_t.TheVariants.{OtherLetter, UppercaseLetter, SpaceSeparator}
use Rattle.shape_common.specs.declared.general_category.hb_unicode_general_category_t.TheVariants.{NonspacingMark, ConnectorPunctuation, Unassigned}
use Rattle.shape_items.specs.Buffer.{Buffer, new_buffer}
use Rattle.shape_items.specs.Items.{Item, new_item, new_properties}
use Rattle.arabic_stretching.specs.Tiles.{recorded, is_tile, repeats, is_word, span_len, begins_at, spans_marked}

-- what a lookup has taken apart: glyph number c
abbrev pub part : ℕ → Item
part c = record (new_item 0x70F 0) { properties = record new_properties { multiplied = true; ligature_component = c } }

abbrev pub noted : ℕ → Item
noted kind = record (new_item 0x70F 0) { properties = record new_properties { shaper_auxiliary = kind; general_category = OtherLetter } }

abbrev pub of_category : hb_unicode_general_category_t → ℕ → Item
of_category category cluster = record (new_item 0x712 cluster) { properties = record new_properties { general_category = category } }

abbrev pub letter : ℕ → Item
letter cluster = of_category OtherLetter cluster

abbrev pub space : ℕ → Item
space cluster = of_category SpaceSeparator cluster

abbrev pub joiner : Item
joiner = record (new_item 0x200D 0) { properties = record new_properties { ignorable = true } }

-- two signs: tiles, two letters, a space and a letter, tiles
abbrev pub text : List Item
text = noted 2 ∷ noted 3 ∷ letter 1 ∷ letter 2 ∷ space 3 ∷ letter 4 ∷ noted 2 ∷ []

abbrev pub masks : Buffer → List ℕ
masks b = map (λ (x : Item). x.mask) b.items

pub record WorkedTiles : Type 0 where
  -- fixed and repeating by turns
  pub first : (recorded (part 0)).properties.shaper_auxiliary ≡ 2
  pub second : (recorded (part 1)).properties.shaper_auxiliary ≡ 3
  pub third : (recorded (part 2)).properties.shaper_auxiliary ≡ 2
  pub whole_glyph : (recorded (letter 1)).properties.shaper_auxiliary ≡ 0
  pub fixed_is_tile : is_tile (noted 2) ≡ true
  pub repeating_is_tile : is_tile (noted 3) ≡ true
  pub other_kind : is_tile (noted 1) ≡ false
  pub fixed_stands_once : repeats (noted 2) ≡ false
  pub repeating_repeats : repeats (noted 3) ≡ true
  pub letter_of_word : is_word (letter 1) ≡ true
  pub mark_of_word : is_word (of_category NonspacingMark 1) ≡ true
  pub unknown_of_word : is_word (of_category Unassigned 1) ≡ true
  pub joiner_of_word : is_word joiner ≡ true
  pub tile_of_none : is_word (noted 2) ≡ false
  pub space_ends : is_word (space 1) ≡ false
  pub hyphen_ends : is_word (of_category ConnectorPunctuation 1) ≡ false
  pub cased_letter_ends : is_word (of_category UppercaseLetter 1) ≡ false
  pub tiles_and_word : span_len text ≡ 4
  pub word_alone : span_len (letter 1 ∷ letter 2 ∷ space 3 ∷ []) ≡ 2
  pub begins_first : begins_at text 0 ≡ true
  pub goes_on : begins_at text 1 ≡ false
  pub begins_again : begins_at text 6 ≡ true
  pub no_tile : begins_at text 2 ≡ false
  -- the tiles stand in the least cluster of the first span
  pub unsafe : masks (spans_marked (record new_buffer { items = text })) ≡ 0 ∷ 0 ∷ 3 ∷ 3 ∷ 0 ∷ 0 ∷ 0 ∷ []

pub worked_tiles : WorkedTiles
worked_tiles = record {
  first = refl;
  second = refl;
  third = refl;
  whole_glyph = refl;
  fixed_is_tile = refl;
  repeating_is_tile = refl;
  other_kind = refl;
  fixed_stands_once = refl;
  repeating_repeats = refl;
  letter_of_word = refl;
  mark_of_word = refl;
  unknown_of_word = refl;
  joiner_of_word = refl;
  tile_of_none = refl;
  space_ends = refl;
  hyphen_ends = refl;
  cased_letter_ends = refl;
  tiles_and_word = refl;
  word_alone = refl;
  begins_first = refl;
  goes_on = refl;
  begins_again = refl;
  no_tile = refl;
  unsafe = refl;
}
