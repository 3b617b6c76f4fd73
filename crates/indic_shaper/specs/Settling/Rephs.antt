-- The place of a reph.
--
-- "Reph's original position is always at the beginning of the syllable (i.e. it is not reordered at the character reordering stage).
-- However, it will be reordered according to the basic-forms shaping results." (Microsoft, Developing OpenType Fonts for Devanagari
-- Script: Final reordering.) The numbers are those of its steps.
use Rattle.std.specs.Prelude.{ℕ, zero, suc, ◌+◌, ◌-◌, ◌==◌, ◌&&◌, ◌||◌, not, nat_le, nat_lt, Bool, if◌then◌else◌, List, slice_range}
use Rattle.std.specs.List.{prefix_len, suffix_len}
use Rattle.shape_items.specs.Buffer.{Buffer}
use Rattle.shape_items.specs.Items.{Item}
use Rattle.syllabic.specs.Moving.{sent_after}
use Rattle.syllabic.specs.Walking.{item_at}
use Rattle.indic_shaper.specs.Glyphs.{category, position, is_halant, is_joiner, is_ligature, is_matra}

-- ---- whether there is one

-- Ra that is to become a reph (1): one that a lookup has made of Ra and Halant, or one that is written as such (14) and joined to nothing;
-- if it is joined, the font has made it work without reordering
abbrev pub is_reph : Item → Bool
is_reph item = (position item == 1) && (if category item == 14 then not (is_ligature item) else is_ligature item)

abbrev pub begins_with_reph : List Item → (start end : ℕ) → Bool
begins_with_reph items start end = nat_lt (start + 1) end && is_reph (item_at items start)

-- ---- step 2, and 5: "after the first explicit halant glyph between the first post-reph consonant and last main consonant. If ZWJ or ZWNJ
-- are following this halant, position is moved after it."

abbrev pub is_no_halant : Item → Bool
is_no_halant item = not (is_halant item)

abbrev pub first_halant : List Item → (start base : ℕ) → ℕ
first_halant items start base =
    if nat_lt start base then start + 1 + prefix_len is_no_halant (slice_range items (start + 1) base) else base

abbrev pub after_joiner : List Item → (halant base : ℕ) → ℕ
after_joiner items halant base = if nat_lt (halant + 1) base && is_joiner (item_at items (halant + 1)) then halant + 1 else halant

-- ---- step 3, for a reph after the main consonant (5): "find the first consonant not ligated with main"

abbrev pub is_of_main : Item → Bool
is_of_main item = nat_le (position item) 5

abbrev pub after_main : List Item → (base end : ℕ) → ℕ
after_main items base end = base + prefix_len is_of_main (slice_range items (base + 1) end)

-- ---- step 4, for a reph before post-base forms (9): "find first post-base classified consonant not ligated with main. If no consonant is
-- found, the target position should be before the first matra, syllable modifier sign or vedic sign"

-- of HarfBuzz's reading: nothing after the base (11), after that (12) or at the end (13)
abbrev pub is_of_sub : Item → Bool
is_of_sub item = not ((position item == 11) || ((position item == 12) || (position item == 13)))

abbrev pub after_sub : List Item → (base end : ℕ) → ℕ
after_sub items base end = base + prefix_len is_of_sub (slice_range items (base + 1) end)

-- ---- step 6: "Otherwise, reorder reph to the end of the syllable."

-- signs that stand last (13)
abbrev pub is_last : Item → Bool
is_last item = position item == 13

abbrev pub before_last : List Item → (start end : ℕ) → ℕ
before_last items start end = end - 1 - suffix_len is_last (slice_range items (start + 1) end)

-- back by one for each matra between the base and where it has come to; Uniscribe doesn't do this. A Halant of a matra stays the last:
-- U+0930 U+094D U+0915 U+094B U+094D
abbrev pub before_matra : List Item → (i to : ℕ) → ℕ
before_matra items i to = if nat_lt i to && is_matra (item_at items i) then to - 1 else to

abbrev pub before_matras : List Item → (base to n : ℕ) → ℕ
before_matras items base to zero = to
before_matras items base to (suc k) = before_matra items (base + 1 + k) (before_matras items base to k)

abbrev pub last_place : List Item → (start end base : ℕ) → ℕ
last_place items start end base =
    let to = before_last items start end in
    if is_halant (item_at items to) then before_matras items base to (to - (base + 1)) else to

-- ---- by the position of a script's reph

abbrev pub after_base : ℕ → List Item → (start end base : ℕ) → ℕ
after_base position items start end base =
    if nat_lt base end && (position == 5) then after_main items base end
    else if nat_lt base end && (position == 9) then after_sub items base end
    else last_place items start end base

abbrev pub place : ℕ → List Item → (start end base : ℕ) → ℕ
place position items start end base =
    let halant = first_halant items start base in
    if nat_lt halant base then after_joiner items halant base else after_base position items start end base

-- ---- the move

-- what it steps past is one cluster with it
abbrev pub settled : ℕ → (start end base : ℕ) → Buffer → Buffer
settled position start end base b =
    if begins_with_reph b.items start end then sent_after start (place position b.items start end base) b else b

-- the base is one item earlier if the reph has stepped past it
abbrev pub base_after : ℕ → List Item → (start end base : ℕ) → ℕ
base_after position items start end base =
    if begins_with_reph items start end && (nat_lt start base && nat_le base (place position items start end base)) then base - 1 else base
