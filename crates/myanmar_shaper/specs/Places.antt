-- The position of each item of a syllable, by which it is sorted.
use Rattle.std.specs.Prelude.{ℕ, zero, suc, ◌+◌, ◌-◌, ◌==◌, ◌&&◌, ◌||◌, not, max, nat_le, nat_lt, Bool, if◌then◌else◌, List, length, set, drop, slice_range}
use Rattle.std.specs.List.{prefix_len}
use Rattle.shape_items.specs.Buffer.{Buffer}
use Rattle.shape_items.specs.Items.{Item}
use Rattle.syllabic.specs.Walking as walking
use Rattle.syllabic.specs.Walking.{item_at, OfSyllable}
use Rattle.syllables.specs.IndicCategories.{A, Asat, C, CS, DOTTED_CIRCLE, H, MR, PLACEHOLDER, Ra, V, VBlw, VPre, VS}
use Rattle.myanmar_shaper.specs.declared.places.Frame.{Frame}
use Rattle.myanmar_shaper.specs.declared.places.Placing.{Placing}

abbrev pub category_of : Item → ℕ
category_of item = walking.category_of item

-- a consonant, or what stands for one
abbrev pub is_consonant_category : ℕ → Bool
is_consonant_category category =
    (category == C) || (category == V) || (category == PLACEHOLDER) || (category == DOTTED_CIRCLE) || (category == Ra) || (category == CS)

abbrev pub is_consonant : Item → Bool
is_consonant item = not item.properties.ligated && is_consonant_category (category_of item)

abbrev pub is_other : Item → Bool
is_other item = not (is_consonant item)

-- RA, asat and a virama
abbrev pub has_kinzi : List Item → Bool
has_kinzi items =
    nat_le 3 (length items) && (category_of (item_at items 0) == Ra) && (category_of (item_at items 1) == Asat)
    && (category_of (item_at items 2) == H)

-- the first consonant, or the first item
abbrev pub if_within : ℕ → List Item → ℕ
if_within count items = if nat_lt count (length items) then count else 0

abbrev pub plain_base : List Item → ℕ
plain_base items = if_within (prefix_len is_other items) items

abbrev pub base_after_kinzi : List Item → ℕ
base_after_kinzi items = if_within (3 + prefix_len is_other (drop 3 items)) items

abbrev pub frame_of : List Item → Frame
frame_of items =
    if has_kinzi items then record { kinzi = 3; base = base_after_kinzi items }
    else record { kinzi = 0; base = plain_base items }

abbrev pub placing : ℕ → ℕ → Placing
placing own next = record { own = own; next = next }

-- positions: 2 vowels before the base, 3 consonants before it, 4 the base, 5 after it, 7 anusvara before vowels below, 8 these, 9 after them
abbrev pub place_before_below : ℕ → ℕ → Placing
place_before_below category next = if category == VBlw then placing 8 8 else placing next next

abbrev pub place_at_below : ℕ → Placing
place_at_below category = if category == A then placing 7 8 else if category == VBlw then placing 8 8 else placing 9 9

-- medial RA, a vowel before the base and a selector have places of their own
abbrev pub place_after : (category before next : ℕ) → Placing
place_after category before next =
    if category == MR then placing 3 next
    else if category == VPre then placing 2 next
    else if category == VS then placing before next
    else if next == 5 then place_before_below category next
    else if next == 8 then place_at_below category
    else placing next next

abbrev pub place_of : Frame → (k category before next : ℕ) → Placing
place_of frame k category before next =
    if nat_lt k frame.kinzi then placing 5 next
    else if nat_lt k frame.base then placing 3 next
    else if k == max frame.kinzi frame.base then placing 4 next
    else place_after category before next

abbrev pub with_place : ℕ → Item → Item
with_place place item = record item { properties = record item.properties { shaper_auxiliary = place } }

abbrev pub place_put : (place i : ℕ) → Buffer → Buffer
place_put place i b = record b { items = set b.items i (with_place place (item_at b.items i)) }

abbrev pub placing_at : Frame → Placing → (start k : ℕ) → Buffer → Placing
placing_at frame before start k b = place_of frame k (category_of (item_at b.items (start + k))) before.own before.next

abbrev pub placed_at : Frame → Placing → (start k : ℕ) → Buffer → Buffer
placed_at frame before start k b = place_put (placing_at frame before start k b).own (start + k) b

abbrev pub placed_next : Frame → (start k : ℕ) → Buffer × Placing → Buffer × Placing
placed_next frame start k (b, before) = (placed_at frame before start k b, placing_at frame before start k b)

abbrev pub placed_to : Frame → (start count : ℕ) → Buffer → Buffer × Placing
placed_to frame start zero b = (b, placing 0 5)
placed_to frame start (suc k) b = placed_next frame start k (placed_to frame start k b)

abbrev pub each_placed : OfSyllable
each_placed b start end = (placed_to (frame_of (slice_range b.items start end)) start (end - start) b).0
