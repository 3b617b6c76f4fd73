-- The syllables of a text.
use Rattle.std.specs.Prelude.{ℕ, zero, suc, ◌+◌, ◌==◌, ◌&&◌, not, Bool, false, if◌then◌else◌, Option, None, Some, List, length, set, drop}
use Rattle.std.specs.List.{find, prefix_len}
use Rattle.std.specs.Option.{option_map}
use Rattle.shape_items.specs.Buffer.{Buffer}
use Rattle.shape_items.specs.Items.{Item, is_mark_item}
use Rattle.syllabic.specs.Scanning.{syllables_numbered}
use Rattle.syllabic.specs.Walking.{item_at, category_of, each_syllable, marked}
use Rattle.universal_shaper.specs.Categories.{categorized}
use Rattle.syllables.specs.Grammar.{first_syllable}
use Rattle.syllables.specs.UniversalCategories.{CGJ, ZWNJ}
use Rattle.syllables.specs.UniversalGrammar.{universal_grammar}

-- CGJ is skipped
abbrev pub is_skipped : Item → Bool
is_skipped item = category_of item == CGJ

abbrev pub is_counted : Item → Bool
is_counted item = not (is_skipped item)

abbrev pub same : Item → Item
same item = item

abbrev pub is_mark_if : Option Item → Bool
is_mark_if None = false
is_mark_if (Some item) = is_mark_item item

-- whether the first item that isn't skipped is a mark
abbrev pub mark_follows : List Item → Bool
mark_follows items = is_mark_if (option_map same (find is_counted items))

abbrev pub with_category : ℕ → Item → Item
with_category category item = record item { properties = record item.properties { shaper_category = category } }

-- a ZWNJ before a mark is skipped, too
abbrev pub skipped_at : ℕ → Buffer → Buffer
skipped_at i b =
    if category_of (item_at b.items i) == ZWNJ && mark_follows (drop (i + 1) b.items)
    then record b { items = set b.items i (with_category CGJ (item_at b.items i)) } else b

abbrev pub skipped_to : ℕ → Buffer → Buffer
skipped_to zero b = b
skipped_to (suc i) b = skipped_at i (skipped_to i b)

abbrev pub joiners_skipped : Buffer → Buffer
joiners_skipped b = skipped_to (length b.items) b

abbrev pub count_skipped : List Item → ℕ
count_skipped items = prefix_len is_skipped items

-- CGJs at the beginning of a text are in no syllable
abbrev pub numbered : Buffer → Buffer
numbered b = syllables_numbered (first_syllable universal_grammar 8) (count_skipped b.items) b

abbrev pub found : Buffer → Buffer
found b = each_syllable marked (numbered (joiners_skipped (categorized b)))
