-- Matras before the base.
--
-- "If a pre-base matra character had been reordered before applying basic features, the glyph can be moved closer to the main consonant
-- based on whether half-forms had been formed. Actual position for the matra is defined as 'after last standalone halant glyph, after
-- initial matra position and before the main consonant'. If ZWJ or ZWNJ follow this halant, position is moved after it."
-- (Microsoft, Developing OpenType Fonts for Devanagari Script: Final reordering.)
--
-- HarfBuzz departs from the last sentence, as Windows does: after a Halant with ZWJ no matra is placed. A Halant with ZWNJ ends its
-- syllable, so no matra of the syllable comes after it.
use Rattle.std.specs.Prelude.{ℕ, zero, suc, ◌+◌, ◌-◌, ◌==◌, ◌&&◌, ◌||◌, not, min, nat_lt, Bool, if◌then◌else◌, List, slice_range}
use Rattle.std.specs.List.{prefix_len}
use Rattle.shape_items.specs.Buffer.{Buffer}
use Rattle.shape_items.specs.BufferClusters.{merge_clusters}
use Rattle.shape_items.specs.Items.{Item}
use Rattle.syllabic.specs.Moving.{stepped_after}
use Rattle.syllabic.specs.Walking.{item_at}
use Rattle.indic_shaper.specs.Glyphs.{category, position, is_halant, is_matra_or_halant}
use Rattle.indic_shaper.specs.declared.config.TheConstants.{MALAYALAM, TAMIL}

-- a matra before the base (2)
abbrev pub is_before : Item → Bool
is_before item = position item == 2

-- Malayalam and Tamil have no half forms: what their feature `half` makes are chillus and explicit viramas, which a matra goes after
abbrev pub has_half_forms : ℕ → Bool
has_half_forms tag = not (tag == MALAYALAM) && not (tag == TAMIL)

-- back from a place while a test holds, no further than to `start`
abbrev pub back_while : (ℕ → Bool) → (start from : ℕ) → ℕ
back_while goes start zero = zero
back_while goes start (suc k) = if nat_lt start (suc k) && goes (suc k) then back_while goes start k else suc k

-- a Halant that stands alone: not one of a matra before the base
abbrev pub is_standing : Item → Bool
is_standing item = is_halant item && not (is_before item)

-- a ZWJ (6) asks for a half form of what is before it
abbrev pub joiner_follows : List Item → (end i : ℕ) → Bool
joiner_follows items end i = nat_lt (i + 1) end && (category (item_at items (i + 1)) == 6)

-- no matra goes after this item, and the search goes on
abbrev pub goes_on : List Item → (end i : ℕ) → Bool
goes_on items end i =
    not (is_matra_or_halant (item_at items i)) || (is_standing (item_at items i) && joiner_follows items end i)

-- the last Halant that stands alone, up to a place; `start` if there is none
abbrev pub halant_before : List Item → (start end from : ℕ) → ℕ
halant_before items start end from =
    let i = back_while (goes_on items end) start from in if is_standing (item_at items i) then i else start

-- the item before the base; HarfBuzz takes the one before the last where no base was found
abbrev pub last_before : (base end : ℕ) → ℕ
last_before base end = if base == end then base - 2 else base - 1

-- the item that matras go after; they stay if it is the first one
abbrev pub place : ℕ → List Item → (start end base : ℕ) → ℕ
place tag items start end base =
    if has_half_forms tag then halant_before items start end (last_before base end) else last_before base end

-- ---- matras that move

-- a matra moves without its cluster, and is merged with what it stands before then, up to the base: so a letter that it has stepped
-- past keeps a cluster of its own (https://github.com/harfbuzz/harfbuzz/issues/2272)
abbrev pub moved_at : (until i : ℕ) → Buffer → (to : ℕ) → Buffer
moved_at until i b to = if is_before (item_at b.items i) then merge_clusters to until (stepped_after i (to - i) b) else b

-- the next one goes before it
abbrev pub to_after : (i : ℕ) → Buffer → (to : ℕ) → ℕ
to_after i b to = if is_before (item_at b.items i) then to - 1 else to

abbrev pub moved_next : (until i : ℕ) → Buffer × ℕ → Buffer × ℕ
moved_next until i (b, to) = (moved_at until i b to, to_after i b to)

-- of the n items before a place, the last one first
abbrev pub moved_to : (until to n : ℕ) → Buffer → Buffer × ℕ
moved_to until to zero b = (b, to)
moved_to until to (suc k) b = moved_next until (to - k - 1) (moved_to until to k b)

abbrev pub moved : (start until to : ℕ) → Buffer → Buffer
moved start until to b = (moved_to until to (to - start) b).0

-- ---- matras that stay

abbrev pub is_none : Item → Bool
is_none item = not (is_before item)

abbrev pub first_matra : List Item → (start base : ℕ) → ℕ
first_matra items start base = start + prefix_len is_none (slice_range items start base)

-- the first one is merged with what is between it and the base
abbrev pub merged : (start until base : ℕ) → Buffer → Buffer
merged start until base b =
    let i = first_matra b.items start base in if nat_lt i base then merge_clusters i until b else b

-- ---- both

-- the end of the base, which is in the syllable
abbrev pub base_end : (base end : ℕ) → ℕ
base_end base end = min end (base + 1)

abbrev pub may_move : List Item → (start to : ℕ) → Bool
may_move items start to = nat_lt start to && not (is_before (item_at items to))

-- nothing stands before a base that a syllable begins with
abbrev pub has_room : (start base end : ℕ) → Bool
has_room start base end = nat_lt start base && nat_lt (start + 1) end

abbrev pub put : (start base end to : ℕ) → Buffer → Buffer
put start base end to b =
    if may_move b.items start to then moved start (base_end base end) to b else merged start (base_end base end) base b

abbrev pub settled : ℕ → (start end base : ℕ) → Buffer → Buffer
settled tag start end base b = if has_room start base end then put start base end (place tag b.items start end base) b else b
