-- The features that each glyph of a syllable may take.
use Rattle.std.specs.Prelude.{ℕ, ◌+◌, ◌-◌, ◌==◌, ◌&&◌, ◌||◌, not, nat_lt, Bool, true, false, List, [], ◌∷◌, length}
use Rattle.std.specs.Prelude.{slice_set, if◌then◌else◌}
use Rattle.std.specs.Int.RustNames.{bit_and, bit_or, bit_xor}
use Rattle.shape_buffer.specs.Layout.{LookupMeaning}
use Rattle.shape_items.specs.Items.{Item}
use Rattle.syllabic.specs.Walking.{item_at}
use Rattle.indic_shaper.specs.Bases.{glyph_at}
use Rattle.indic_shaper.specs.Engine.{would}
use Rattle.indic_shaper.specs.Glyphs.{category, position, with_mask, is_consonant, is_of}
use Rattle.indic_shaper.specs.Places.{walked}
use Rattle.indic_shaper.specs.declared.categories.TheConstants.{CAT_H, CAT_RA, CAT_ZWJ, CAT_ZWNJ, POS_RA_TO_BECOME_REPH}
use Rattle.indic_shaper.specs.declared.config.TheConstants.{DEVANAGARI}
use Rattle.indic_shaper.specs.declared.engine.Facts.{Facts}
use Rattle.indic_shaper.specs.declared.initial.masking.Masked.{Masked}
use Rattle.indic_shaper.specs.declared.requests.TheConstants.{PREF}

abbrev pub or_0 : Bool → ℕ → ℕ
or_0 true mask = mask
or_0 false mask = 0

-- ---- "Reph", "Pre-base", "Post-base": by where an item stands beside the base

-- before the base half forms; forms below it, too, in the newer specification, and only after it in Telugu and Kannada
abbrev pub before_mask : Facts → ℕ
before_mask facts =
    bit_or facts.masks.half (or_0 (not facts.is_old && facts.config.below_before_base) facts.masks.blwf)

abbrev pub after_mask : Facts → ℕ
after_mask facts = bit_or (bit_or facts.masks.blwf facts.masks.abvf) facts.masks.pstf

abbrev pub side_mask : Facts → Masked → ℕ
side_mask facts masked = if nat_lt 0 masked.left then before_mask facts else or_0 masked.is_after (after_mask facts)

-- a reph is what its position says of the first items
abbrev pub is_reph : Masked → Item → Bool
is_reph masked item = masked.in_reph && (position item == POS_RA_TO_BECOME_REPH)

-- ---- "The feature 'below-base form' is applied to consonants having below-base forms and following the base consonant. The exception
-- is vattu, which may appear below half forms as well as below the base glyph." So are Ra and Halant before the base (U+0924 U+094D
-- U+0930 U+094D U+0915), but not with ZWJ after them, which asks for an eyelash.

abbrev pub is_eyelash : (left : ℕ) → Item → List Item → Bool
is_eyelash left item rest =
    nat_lt 1 left && ((category item == CAT_RA) && ((category (item_at rest 0) == CAT_H)
    && ((left == 2) || not (category (item_at rest 1) == CAT_ZWJ))))

abbrev pub begins_eyelash : Facts → Masked → Item → List Item → Bool
begins_eyelash facts masked item rest = facts.is_old && ((facts.tag == DEVANAGARI) && is_eyelash masked.left item rest)

-- ---- the three together

abbrev pub mask_at : Facts → Masked → Item → (eyelash : Bool) → ℕ
mask_at facts masked item eyelash =
    bit_or (bit_or (or_0 (is_reph masked item) facts.masks.rphf) (side_mask facts masked))
    (or_0 (masked.after_eyelash || eyelash) facts.masks.blwf)

abbrev pub masked_by : Facts → Masked → Item → List Item → Item
masked_by facts masked item rest = with_mask item (mask_at facts masked item (begins_eyelash facts masked item rest))

abbrev pub masked_next : Masked → Item → (eyelash : Bool) → Masked
masked_next masked item eyelash = record {
  left = masked.left - 1;
  is_after = masked.left == 0;
  in_reph = is_reph masked item;
  after_eyelash = eyelash;
}

abbrev pub masked_after : Facts → Masked → Item → List Item → Masked
masked_after facts masked item rest = masked_next masked item (begins_eyelash facts masked item rest)

abbrev pub first_masked : (base : ℕ) → Masked
first_masked base = record { left = base; is_after = false; in_reph = true; after_eyelash = false }

abbrev pub places_masked : Facts → (base : ℕ) → List Item → List Item
places_masked facts base items = walked (masked_by facts) (masked_after facts) (first_masked base) items

-- ---- "Find a Halant,Ra sequence and mark it for pre-base-reordering processing": the first pair after the base that pref joins

abbrev pub joins_next : LookupMeaning → Facts → Item → List Item → Bool
joins_next lookups facts item rest = not (length rest == 0) && would lookups facts PREF (item.glyph_id ∷ glyph_at rest 0 ∷ [])

abbrev pub joins_before : LookupMeaning → Facts → (base i : ℕ) → Item → List Item → Bool
joins_before lookups facts base i item rest = nat_lt base i && joins_next lookups facts item rest

-- where it begins, the end if there is none
abbrev pub pref_from : LookupMeaning → Facts → (base i : ℕ) → List Item → ℕ
pref_from lookups facts base i [] = i
pref_from lookups facts base i (x ∷ xs) =
    if joins_before lookups facts base i x xs then i else pref_from lookups facts base (i + 1) xs

abbrev pub masked_item : ℕ → ℕ → List Item → List Item
masked_item mask i items = slice_set items i (with_mask (item_at items i) mask)

abbrev pub pair_masked : ℕ → ℕ → List Item → List Item
pair_masked mask i items = if nat_lt (i + 1) (length items) then masked_item mask (i + 1) (masked_item mask i items) else items

abbrev pub pref_masked : LookupMeaning → Facts → (base : ℕ) → List Item → List Item
pref_masked lookups facts base items =
    if facts.masks.pref == 0 then items else pair_masked facts.masks.pref (pref_from lookups facts base 0 items) items

-- ---- "A ZWNJ disables HALF", back to the consonant before it

-- by an item and what is so of those after it
abbrev pub zwnj_at : Item → Bool → Bool
zwnj_at item after = if is_of item CAT_ZWNJ then true else if is_consonant item then false else after

abbrev pub is_before_zwnj : List Item → Bool
is_before_zwnj [] = false
is_before_zwnj (x ∷ xs) = zwnj_at x (is_before_zwnj xs)

abbrev pub without_mask : Item → ℕ → Item
without_mask item mask = record item { mask = bit_xor item.mask (bit_and item.mask mask) }

abbrev pub joiner_by : Facts → Item → Bool → Item
joiner_by facts item before = if before then without_mask item facts.masks.half else item

abbrev pub joiner_masked : Facts → Unit {0} → Item → List Item → Item
joiner_masked facts state item rest = joiner_by facts item (is_before_zwnj rest)

abbrev pub no_state : Unit {0} → Item → List Item → Unit {0}
no_state state item rest = state

abbrev pub joiners_masked : Facts → List Item → List Item
joiners_masked facts items = walked (joiner_masked facts) no_state tt items

abbrev pub all_masked : LookupMeaning → Facts → (base : ℕ) → List Item → List Item
all_masked lookups facts base items = joiners_masked facts (pref_masked lookups facts base (places_masked facts base items))
