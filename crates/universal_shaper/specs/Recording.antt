-- What lookups have made is noted as a category.
use Rattle.std.specs.Prelude.{ℕ, ◌+◌, ◌==◌, ◌&&◌, not, nat_lt, Bool, false, if◌then◌else◌, List, set, slice_range}
use Rattle.std.specs.List.{prefix_len}
use Rattle.std.specs.Int.RustNames.{bit_and}
use Rattle.shape_items.specs.Buffer.{Buffer}
use Rattle.shape_items.specs.Items.{Item}
use Rattle.shape_buffer.specs.Walks.{items_mapped}
use Rattle.syllables.specs.UniversalCategories.{R, VPre}
use Rattle.syllabic.specs.Walking.{item_at, at_syllable, each_syllable, OfSyllable}
use Rattle.universal_shaper.specs.Syllables.{with_category}

abbrev pub without_substitution : Item → Item
without_substitution item = record item { properties = record item.properties { substituted = false } }

abbrev pub substitutions_cleared : Buffer → Buffer
substitutions_cleared = items_mapped without_substitution

abbrev pub category_set : ℕ → ℕ → Buffer → Buffer
category_set category i b = record b { items = set b.items i (with_category category (item_at b.items i)) }

abbrev pub has_mask : ℕ → Item → Bool
has_mask mask item = not (bit_and item.mask mask == 0)

abbrev pub may_follow : ℕ → Item → Bool
may_follow mask item = has_mask mask item && not item.properties.substituted

abbrev pub count_before : ℕ → List Item → ℕ
count_before mask items = prefix_len (may_follow mask) items

-- the first item that a lookup has made is a sign for a repha if it and those before it are masked
abbrev pub repha_recorded : ℕ → OfSyllable
repha_recorded mask b start end =
    let i = start + count_before mask (slice_range b.items start end) in
    if nat_lt i end && has_mask mask (item_at b.items i) then category_set R i b else b

abbrev pub repha_recorded_at : ℕ → ℕ → Buffer → Buffer
repha_recorded_at mask i b = at_syllable (repha_recorded mask) i b

abbrev pub rephas_recorded : ℕ → Buffer → Buffer
rephas_recorded mask b = each_syllable (repha_recorded mask) b

abbrev pub is_own : Item → Bool
is_own item = not item.properties.substituted

abbrev pub count_own : List Item → ℕ
count_own items = prefix_len is_own items

-- the first item that a lookup has made is a vowel before the base
abbrev pub prebase_recorded : OfSyllable
prebase_recorded b start end =
    let i = start + count_own (slice_range b.items start end) in
    if nat_lt i end then category_set VPre i b else b

abbrev pub prebase_recorded_at : ℕ → Buffer → Buffer
prebase_recorded_at i b = at_syllable prebase_recorded i b

abbrev pub prebases_recorded : Buffer → Buffer
prebases_recorded b = each_syllable prebase_recorded b
