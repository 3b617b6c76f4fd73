-- The categories of characters.
use Rattle.std.specs.Prelude.{ℕ, ◌+◌, ◌*◌, ◌/◌, ◌%◌, ◌&&◌, nat_le, nat_lt, if◌then◌else◌, slice_index_or}
use Rattle.shape_items.specs.Buffer.{Buffer}
use Rattle.shape_items.specs.Items.{Item}
use Rattle.shape_buffer.specs.Walks.{items_mapped}
use Rattle.syllables.specs.UniversalCategories.{O, CGJ, WJ}
use Rattle.universal_shaper.specs.declared.categories.blocks.TheConstants.{BLOCKS}
use Rattle.universal_shaper.specs.declared.categories.pages.TheConstants.{PAGES}

-- a page is 32 characters, whose categories are a block
abbrev pub near_category : ℕ → ℕ
near_category c = slice_index_or BLOCKS (slice_index_or PAGES (c / 32) 0 * 32 + c % 32) 0

-- in plane 14 the variation selectors are marks that can't be seen, and the others aren't marks
abbrev pub far_category : ℕ → ℕ
far_category c =
    if nat_le 0xE0100 c && nat_le c 0xE01EF then CGJ else if nat_le 0xE0000 c && nat_le c 0xE0FFF then WJ else O

abbrev pub category : ℕ → ℕ
category c = if nat_lt c 0x20000 then near_category c else far_category c

abbrev pub with_category : Item → Item
with_category item = record item { properties = record item.properties { shaper_category = category item.codepoint } }

abbrev pub categorized : Buffer → Buffer
categorized = items_mapped with_category
