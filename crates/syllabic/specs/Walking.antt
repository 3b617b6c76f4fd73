-- The walk over syllables: neighbours with one byte are one.
use Rattle.std.specs.Prelude.{ℕ, zero, suc, ◌+◌, ◌-◌, ◌%◌, ◌==◌, ◌||◌, not, Bool, if◌then◌else◌, List, length, drop, slice_index_or}
use Rattle.std.specs.List.{prefix_len}
use Rattle.shape_items.specs.Buffer.{Buffer}
use Rattle.shape_items.specs.BufferClusters.{unsafe_to_break}
use Rattle.shape_items.specs.Items.{Item, new_item}

abbrev pub item_at : List Item → ℕ → Item
item_at items i = slice_index_or items i (new_item 0 0)

abbrev pub syllable_of : Item → ℕ
syllable_of item = item.properties.syllable

abbrev pub category_of : Item → ℕ
category_of item = item.properties.shaper_category

-- the kind of a syllable is the low four bits of its byte
abbrev pub kind_of_byte : ℕ → ℕ
kind_of_byte byte = byte % 16

abbrev pub is_in : ℕ → Item → Bool
is_in byte item = syllable_of item == byte

abbrev pub begins_at : List Item → ℕ → Bool
begins_at items i = (i == 0) || not (is_in (syllable_of (item_at items i)) (item_at items (i - 1)))

abbrev pub count_in : ℕ → List Item → ℕ
count_in byte items = prefix_len (is_in byte) items

abbrev pub end_of : List Item → ℕ → ℕ
end_of items i = i + count_in (syllable_of (item_at items i)) (drop i items)

-- what is done with a syllable, from its start up to its end
abbrev pub OfSyllable : Type 0
OfSyllable = Buffer → ℕ → ℕ → Buffer

-- done with the one that begins at a place, if one does
abbrev pub at_syllable : OfSyllable → ℕ → Buffer → Buffer
at_syllable does i b = if begins_at b.items i then does b i (end_of b.items i) else b

-- with those that begin at the first places, from left to right
abbrev pub to_syllable : OfSyllable → ℕ → Buffer → Buffer
to_syllable does zero b = b
to_syllable does (suc i) b = at_syllable does i (to_syllable does i b)

-- with all of them
abbrev pub each_syllable : OfSyllable → Buffer → Buffer
each_syllable does b = to_syllable does (length b.items) b

abbrev pub marked : OfSyllable
marked b start end = unsafe_to_break start end b
