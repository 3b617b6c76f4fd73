-- Where the font puts each consonant.
-- Whether a letter has a form below the base or after it no character property says: the font's lookups do.
use Rattle.std.specs.Prelude.{◌≡◌, ℕ, ◌==◌, ◌&&◌, ◌||◌, not, All, Bool, true, List, [], ◌∷◌, drop, if◌then◌else◌}
use Rattle.std.specs.List.{list_any}
use Rattle.shape_common.specs.declared.text_types.hb_tag_t.{hb_tag_t}
use Rattle.shape_buffer.specs.Layout.{LookupMeaning}
use Rattle.shape_items.specs.Items.{Item}
use Rattle.indic_shaper.specs.Cutting.{is_new_circle, as_circle}
use Rattle.indic_shaper.specs.Engine.{would}
use Rattle.indic_shaper.specs.Glyphs.{category, position, with_position, is_letter}
use Rattle.indic_shaper.specs.Places.{walked}
use Rattle.indic_shaper.specs.declared.categories.TheConstants.{POS_BASE_C, POS_BELOW_C, POS_POST_C}
use Rattle.indic_shaper.specs.declared.engine.Facts.{Facts}
use Rattle.indic_shaper.specs.declared.initial.consonants.Known.{Known}
use Rattle.indic_shaper.specs.declared.requests.TheConstants.{BLWF, PREF, PSTF, VATU}

-- a feature joins a consonant with the virama before it (new specification) or after it (old one); both are asked in either, since
-- "some broken fonts (like Free Sans) simply copied lookups from old-spec to new-spec"
abbrev pub joins : LookupMeaning → Facts → hb_tag_t → ℕ → Bool
joins lookups facts tag consonant =
    would lookups facts tag (facts.virama ∷ consonant ∷ []) || would lookups facts tag (consonant ∷ facts.virama ∷ [])

-- by `blwf`, and by `vatu` (https://github.com/harfbuzz/harfbuzz/issues/1587): a form below the base, one after it (also one that goes
-- before it, which follows it at first), or none
abbrev pub consonant_position : LookupMeaning → Facts → ℕ → ℕ
consonant_position lookups facts consonant =
    if joins lookups facts BLWF consonant || joins lookups facts VATU consonant then POS_BELOW_C
    else if joins lookups facts PSTF consonant || joins lookups facts PREF consonant then POS_POST_C
    else POS_BASE_C

-- what is kept in mind of consonants is what the font says of them
abbrev pub IsKnown : LookupMeaning → Facts → Known → Type 0
IsKnown lookups facts known = known.is_set ≡ true → known.place ≡ consonant_position lookups facts known.glyph

abbrev pub AreKnown : LookupMeaning → Facts → List Known → Type 0
AreKnown lookups facts known = All (IsKnown lookups facts) known

-- a letter that may be the base, in a script with a virama
abbrev pub is_candidate : Facts → Item → Bool
is_candidate facts item = not (facts.virama == 0) && (position item == POS_BASE_C)

-- Of a letter that stands alone in its syllable nothing is asked: it is the base, or stands before it, whatever forms the font has.
abbrev pub is_letter_item : Item → Bool
is_letter_item item = is_letter (category item)

abbrev pub has_several : List Item → Bool
has_several items = list_any is_letter_item (drop 1 items)

abbrev pub placed : LookupMeaning → Facts → (several : Bool) → Item → Item
placed lookups facts several item =
    if is_new_circle item then as_circle item
    else if several && is_candidate facts item then with_position item (consonant_position lookups facts item.glyph_id)
    else item

abbrev pub placed_in : LookupMeaning → Facts → Bool → Item → List Item → Item
placed_in lookups facts several item rest = placed lookups facts several item

abbrev pub several_still : Bool → Item → List Item → Bool
several_still several item rest = several

-- the letters of a syllable where the font puts them
abbrev pub letters_placed : LookupMeaning → Facts → List Item → List Item
letters_placed lookups facts items = walked (placed_in lookups facts) several_still (has_several items) items
