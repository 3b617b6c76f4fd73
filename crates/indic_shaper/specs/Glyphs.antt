-- What the shaper asks of an item. Its category and position are in the two bytes of the shaper.
use Rattle.std.specs.Prelude.{ℕ, ◌==◌, ◌&&◌, ◌||◌, not, Bool}
use Rattle.std.specs.Int.RustNames.{bit_or}
use Rattle.shape_items.specs.Items.{Item}
use Rattle.indic_shaper.specs.declared.categories.TheConstants.{CAT_C, CAT_V, CAT_H, CAT_ZWNJ, CAT_ZWJ, CAT_M}
use Rattle.indic_shaper.specs.declared.categories.TheConstants.{CAT_PLACEHOLDER, CAT_DOTTEDCIRCLE, CAT_MPST, CAT_RA}
use Rattle.indic_shaper.specs.declared.categories.TheConstants.{CAT_CM, CAT_CS}

abbrev pub category : Item → ℕ
category item = item.properties.shaper_category

abbrev pub position : Item → ℕ
position item = item.properties.shaper_auxiliary

abbrev pub with_position : Item → ℕ → Item
with_position item position = record item { properties = record item.properties { shaper_auxiliary = position } }

abbrev pub with_mask : Item → ℕ → Item
with_mask item mask = record item { mask = bit_or item.mask mask }

-- of a ligature nothing is known
abbrev pub is_whole : Item → Bool
is_whole item = not item.properties.ligated

-- consonants, those with a stacker, Ra, medial ones, vowels, placeholders, the dotted circle
abbrev pub is_letter : ℕ → Bool
is_letter c =
    (c == CAT_C) || ((c == CAT_CS) || ((c == CAT_RA) || ((c == CAT_CM) ||
    ((c == CAT_V) || ((c == CAT_PLACEHOLDER) || (c == CAT_DOTTEDCIRCLE))))))

abbrev pub is_consonant : Item → Bool
is_consonant item = is_whole item && is_letter (category item)

abbrev pub is_joiner : Item → Bool
is_joiner item = is_whole item && ((category item == CAT_ZWJ) || (category item == CAT_ZWNJ))

abbrev pub is_halant : Item → Bool
is_halant item = is_whole item && (category item == CAT_H)

abbrev pub is_matra : Item → Bool
is_matra item = (category item == CAT_M) || (category item == CAT_MPST)

abbrev pub is_of : Item → ℕ → Bool
is_of item wanted = is_whole item && (category item == wanted)

abbrev pub is_matra_or_halant : Item → Bool
is_matra_or_halant item = is_whole item && (is_matra item || (category item == CAT_H))

-- a lookup has made one glyph of several, and no several of it
abbrev pub is_ligature : Item → Bool
is_ligature item = item.properties.ligated && not item.properties.multiplied
