-- Categories of characters, by which a text is cut into syllables, and positions, by which a syllable is ordered.
use Rattle.std.specs.Prelude.{ℕ, ◌+◌, ◌*◌, ◌/◌, ◌%◌, slice_index_or}
use Rattle.shape_items.specs.Buffer.{Buffer}
use Rattle.shape_items.specs.Items.{Item}
use Rattle.shape_buffer.specs.Walks.{items_mapped}
use Rattle.indic_shaper.specs.declared.categories.Sort.{Sort}
use Rattle.indic_shaper.specs.declared.categories.blocks.TheConstants.{BLOCKS}
use Rattle.indic_shaper.specs.declared.categories.pages.TheConstants.{PAGES}

-- 64 times the position, and the category: a page is 32 characters, whose numbers are a block
abbrev pub value_of : ℕ → ℕ
value_of c = slice_index_or BLOCKS (slice_index_or PAGES (c / 32) 0 * 32 + c % 32) 0

-- IndicSyllabicCategory and IndicPositionalCategory of a character
abbrev pub sort_of : ℕ → Sort
sort_of c = record { category = value_of c % 64; position = value_of c / 64 % 16 }

abbrev pub with_sort : Item → Item
with_sort item =
    let sort = sort_of item.codepoint in
    record item { properties = record item.properties { shaper_category = sort.category; shaper_auxiliary = sort.position } }

abbrev pub categorized : Buffer → Buffer
categorized = items_mapped with_sort
