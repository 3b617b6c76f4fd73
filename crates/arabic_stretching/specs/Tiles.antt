-- Signs that stretch over a word (OpenType, feature stch): the glyphs that a lookup takes such a sign apart into are tiles. In the
-- order of the text they stand before the word.
use Rattle.std.specs.Prelude.{ℕ, zero, suc, ◌+◌, ◌-◌, ◌%◌, ◌==◌, ◌&&◌, ◌||◌, not, Bool, true, false, List, length, drop, slice_index_or, if◌then◌else◌}
use Rattle.std.specs.List.{prefix_len}
use Rattle.shape_common.specs.declared.general_category.hb_unicode_general_category_t.{hb_unicode_general_category_t}
use Rattle.shape_common.specs.declared.general_category.hb_unicode_general_category_t.TheVariants.{Unassigned, PrivateUse, ModifierLetter}
use Rattle.shape_common.specs.declared.general_category.hb_unicode_general_category_t.TheVariants.{OtherLetter, SpacingMark, EnclosingMark}
use Rattle.shape_common.specs.declared.general_category.hb_unicode_general_category_t.TheVariants.{NonspacingMark, DecimalNumber, LetterNumber}
use Rattle.shape_common.specs.declared.general_category.hb_unicode_general_category_t.TheVariants.{OtherNumber, CurrencySymbol, ModifierSymbol}
use Rattle.shape_common.specs.declared.general_category.hb_unicode_general_category_t.TheVariants.{MathSymbol, OtherSymbol}
use Rattle.shape_items.specs.Buffer.{Buffer}
use Rattle.shape_items.specs.BufferClusters.{unsafe_to_break}
use Rattle.shape_items.specs.Items.{Item, new_item, is_ignorable_item}
use Rattle.shape_buffer.specs.Walks.{items_mapped}
use Rattle.arabic_stretching.specs.declared.tiles.TheConstants.{FIXED, REPEATING}

-- the first of the glyphs that one is taken apart into is fixed, the second repeats, and so on
abbrev pub tile_of : ℕ → ℕ
tile_of component = if component % 2 == 0 then FIXED else REPEATING

abbrev pub recorded : Item → Item
recorded item =
    if item.properties.multiplied
    then record item { properties = record item.properties { shaper_auxiliary = tile_of item.properties.ligature_component } }
    else item

abbrev pub tiles_recorded : Buffer → Buffer
tiles_recorded = items_mapped recorded

abbrev pub is_tile : Item → Bool
is_tile item = (item.properties.shaper_auxiliary == FIXED) || (item.properties.shaper_auxiliary == REPEATING)

abbrev pub repeats : Item → Bool
repeats item = item.properties.shaper_auxiliary == REPEATING

-- letters without case, marks, numbers, symbols, and what Unicode doesn't know
abbrev pub is_word_category : hb_unicode_general_category_t → Bool
is_word_category Unassigned = true
is_word_category PrivateUse = true
is_word_category ModifierLetter = true
is_word_category OtherLetter = true
is_word_category SpacingMark = true
is_word_category EnclosingMark = true
is_word_category NonspacingMark = true
is_word_category DecimalNumber = true
is_word_category LetterNumber = true
is_word_category OtherNumber = true
is_word_category CurrencySymbol = true
is_word_category ModifierSymbol = true
is_word_category MathSymbol = true
is_word_category OtherSymbol = true
is_word_category _ = false

-- a glyph of the word that tiles stretch over
abbrev pub is_word : Item → Bool
is_word item = not (is_tile item) && (is_ignorable_item item || is_word_category item.properties.general_category)

-- the tiles at the beginning of a list, and the word after them
abbrev pub span_len : List Item → ℕ
span_len items = prefix_len is_tile items + prefix_len is_word (drop (prefix_len is_tile items) items)

abbrev nth : List Item → ℕ → Item
nth items i = slice_index_or items i (new_item 0 0)

-- tiles begin at a place
abbrev pub begins_at : List Item → ℕ → Bool
begins_at items i = is_tile (nth items i) && ((i == 0) || not (is_tile (nth items (i - 1))))

-- tiles and their word are unsafe to break
abbrev pub span_marked_at : ℕ → Buffer → Buffer
span_marked_at i b = if begins_at b.items i then unsafe_to_break i (i + span_len (drop i b.items)) b else b

abbrev pub spans_marked_to : ℕ → Buffer → Buffer
spans_marked_to zero b = b
spans_marked_to (suc i) b = span_marked_at i (spans_marked_to i b)

abbrev pub spans_marked : Buffer → Buffer
spans_marked b = spans_marked_to (length b.items) b
