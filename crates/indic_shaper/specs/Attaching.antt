-- Which positions the items of a syllable take from the base and from one another, before they are sorted.
use Rattle.std.specs.Prelude.{ℕ, zero, suc, ◌+◌, ◌-◌, ◌==◌, ◌&&◌, ◌||◌, not, min, nat_lt, Bool, Option, None, Some}
use Rattle.std.specs.Prelude.{List, [], ◌∷◌, length, swap, if◌then◌else◌}
use Rattle.std.specs.List.{suffix_len}
use Rattle.shape_items.specs.Items.{Item}
use Rattle.syllabic.specs.Walking.{item_at}
use Rattle.indic_shaper.specs.Glyphs.{category, position, with_position, is_consonant, is_matra}
use Rattle.indic_shaper.specs.Places.{walked}
use Rattle.indic_shaper.specs.declared.categories.TheConstants.{CAT_CM, CAT_H, CAT_MPST, CAT_N, CAT_RS, CAT_SM, CAT_ZWJ}
use Rattle.indic_shaper.specs.declared.categories.TheConstants.{CAT_ZWNJ, POS_BASE_C, POS_PRE_C, POS_PRE_M}
use Rattle.indic_shaper.specs.declared.categories.TheConstants.{POS_RA_TO_BECOME_REPH, POS_SMVD, POS_START}
use Rattle.indic_shaper.specs.declared.config.TheConstants.{KANNADA}
use Rattle.indic_shaper.specs.declared.engine.Facts.{Facts}
use Rattle.indic_shaper.specs.declared.initial.attaching.Last.{Last}
use Rattle.indic_shaper.specs.declared.initial.base.Base.{Base}

-- ---- the base, what stands before it, and the reph

abbrev pub noted_place : Base → ℕ → Item → ℕ
noted_place found i item =
    if found.has_reph && (i == 0) then POS_RA_TO_BECOME_REPH
    else if i == found.base then POS_BASE_C
    else if nat_lt i found.base then min (position item) POS_PRE_C
    else position item

abbrev pub noted : Base → ℕ → Item → List Item → Item
noted found i item rest = with_position item (noted_place found i item)

abbrev pub next_place : ℕ → Item → List Item → ℕ
next_place i item rest = i + 1

abbrev pub base_noted : Base → List Item → List Item
base_noted found items = walked (noted found) next_place 0 items

-- ---- "For old-style Indic script tags, move the first post-base Halant after last consonant."
-- https://github.com/harfbuzz/harfbuzz/issues/1071 (Devanagari) and 1073 (Bengali)

abbrev pub is_late_halant : (base i : ℕ) → Item → Bool
is_late_halant base i item = nat_lt base i && (category item == CAT_H)

-- the place of the first Halant after the base, the end if there is none
abbrev pub halant_from : (base i : ℕ) → List Item → ℕ
halant_from base i [] = i
halant_from base i (x ∷ xs) = if is_late_halant base i x then i else halant_from base (i + 1) xs

-- behind which Halant goes: a consonant; in Kannada it stays if there is a Halant after the last one already (U+0C9A U+0CCD U+0C9A
-- U+0CCD, https://bugs.freedesktop.org/show_bug.cgi?id=59118)
abbrev pub holds_halant : Facts → Item → Bool
holds_halant facts item = is_consonant item || ((facts.tag == KANNADA) && (category item == CAT_H))

abbrev pub passes_halant : Facts → Item → Bool
passes_halant facts item = not (holds_halant facts item)

-- the place behind the last of these
abbrev pub halant_end : Facts → List Item → ℕ
halant_end facts items = length items - suffix_len (passes_halant facts) items

-- the item at a place goes n places on, each of those that it passes one back
abbrev pub carried : ℕ → ℕ → List Item → List Item
carried i zero items = items
carried i (suc n) items = swap (carried i n items) (i + n) (i + suc n)

-- from a place to the one before an end, unless that is a Halant already
abbrev pub carried_to : (i end : ℕ) → List Item → List Item
carried_to i end items =
    if nat_lt (i + 1) end && not (category (item_at items (end - 1)) == CAT_H) then carried i (end - 1 - i) items else items

abbrev pub halant_moved : Facts → (base : ℕ) → List Item → List Item
halant_moved facts base items = carried_to (halant_from base 0 items) (halant_end facts items) items

-- ---- "Attach misc marks to previous char to move with them."

abbrev pub is_attached : Item → Bool
is_attached item =
    let c = category item in
    (c == CAT_ZWJ) || ((c == CAT_ZWNJ) || ((c == CAT_N) || ((c == CAT_RS) || ((c == CAT_CM) || (c == CAT_H)))))

-- "Uniscribe doesn't move the Halant with Left Matra" (U+092B U+093F U+094D): it stays with what else is before it
abbrev pub sign_place : Last → Item → ℕ
sign_place last item = if (category item == CAT_H) && (last.place == POS_PRE_M) then last.other else last.place

-- a modifier goes with the vowel sign right after it
abbrev pub goes_with : Item → Item → Bool
goes_with item next = (category item == CAT_SM) && ((category next == CAT_MPST) && not (position next == POS_SMVD))

abbrev pub own_place : Item → Item → ℕ
own_place item next = if goes_with item next then position next else position item

abbrev pub attached_place : Last → Item → List Item → ℕ
attached_place last item rest = if is_attached item then sign_place last item else own_place item (item_at rest 0)

-- the position that signs take after an item, and the last one that isn't before the base
abbrev pub last_place : Last → Item → ℕ
last_place last item = if is_attached item || (position item == POS_SMVD) then last.place else position item

abbrev pub other_place : Last → ℕ → ℕ
other_place last place = if place == POS_PRE_M then last.other else place

abbrev pub attached : Last → Item → List Item → Item
attached last item rest = with_position item (attached_place last item rest)

abbrev pub last_after : Last → Item → List Item → Last
last_after last item rest = record { place = last_place last item; other = other_place last (attached_place last item rest) }

abbrev pub first_last : Last
first_last = record { place = POS_START; other = POS_PRE_M }

abbrev pub signs_attached : List Item → List Item
signs_attached items = walked attached last_after first_last items

-- ---- "For post-base consonants let them own anything before them since the last consonant or matra."

-- the position of the consonant that comes before any vowel sign, by an item and what is so after it
abbrev pub owner_at : Item → Option ℕ → Option ℕ
owner_at item after = if is_consonant item then Some (position item) else if is_matra item then None else after

abbrev pub owner : List Item → Option ℕ
owner [] = None
owner (x ∷ xs) = owner_at x (owner xs)

abbrev pub or_own : ℕ → Option ℕ → ℕ
or_own own None = own
or_own own (Some place) = place

abbrev pub is_ownable : (base i : ℕ) → Item → Bool
is_ownable base i item = nat_lt base i && (not (is_consonant item || is_matra item) && nat_lt (position item) POS_SMVD)

abbrev pub owned_by : (base i : ℕ) → Item → Option ℕ → ℕ
owned_by base i item owner = if is_ownable base i item then or_own (position item) owner else position item

abbrev pub owned_place : (base i : ℕ) → Item → List Item → ℕ
owned_place base i item rest = owned_by base i item (owner rest)

abbrev pub owned : (base : ℕ) → ℕ → Item → List Item → Item
owned base i item rest = with_position item (owned_place base i item rest)

abbrev pub signs_owned : (base : ℕ) → List Item → List Item
signs_owned base items = walked (owned base) next_place 0 items

-- ---- all of them

abbrev pub halant_moved_if : Facts → (base : ℕ) → List Item → List Item
halant_moved_if facts base items = if facts.is_old then halant_moved facts base items else items

-- what each item's position is before they are sorted
abbrev pub positioned : Facts → Base → List Item → List Item
positioned facts found items = signs_owned found.base (signs_attached (halant_moved_if facts found.base (base_noted found items)))
