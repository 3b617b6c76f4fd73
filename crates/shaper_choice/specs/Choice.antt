-- The shaper that the script of a text asks for: HarfBuzz's `hb_ot_shaper_categorize`.
use Rattle.std.specs.Prelude.{ℕ, ◌==◌, ◌%◌, ◌||◌, Bool, true, false, if◌then◌else◌, Option, None, Some}
use Rattle.shape_items.specs.Buffer.{Buffer}
use Rattle.shape_buffer.specs.Guess.{guessed_direction, guessed_script}
use Rattle.shape_buffer.specs.Layout.{LayoutMeaning}
use Rattle.shape_buffer.specs.declared.interfaces.map_request.TableIndex.TheVariants.{GSUB}
use Rattle.shape_common.specs.Direction.{is_horizontal}
use Rattle.shape_common.specs.Unicode.{UnicodeMeaning}
use Rattle.shape_common.specs.declared.text_types.Direction.{Direction}
use Rattle.shape_common.specs.declared.text_types.Direction.TheVariants.{LeftToRight}
use Rattle.shape_common.specs.declared.text_types.Script.{Script}
use Rattle.shape_common.specs.declared.text_types.hb_tag_t.{hb_tag_t}
use Rattle.shaper_choice.specs.Scripts.{group_of}
use Rattle.shaper_choice.specs.declared.choice.Category.{Category}
use Rattle.shaper_choice.specs.declared.choice.Category.TheVariants as is
use Rattle.shaper_choice.specs.declared.scripts.Group.{Group}
use Rattle.shaper_choice.specs.declared.scripts.Group.TheVariants as scripts

-- "Arabic shaping is applicable only to horizontal layout; for vertical text, just use the generic shaper instead."
abbrev pub joining : Direction → Category
joining direction = if is_horizontal direction then is.Arabic else is.Default

-- the script that the engine chose of the font's table GSUB, if it has one
abbrev pub has_chosen : Option hb_tag_t → ℕ → Bool
has_chosen None tag = false
has_chosen (Some chosen) tag = chosen.0 == tag

-- DFLT, or latn: "the designer designed the font for the 'DFLT' script (or we ended up arbitrarily pick 'latn')"
abbrev pub is_for_any : Option hb_tag_t → Bool
is_for_any chosen = has_chosen chosen 0x44464C54 || has_chosen chosen 0x6C61746E

-- the last letter is 3: "If it's indy3 tag, send to USE."
abbrev pub is_third : Option hb_tag_t → Bool
is_third None = false
is_third (Some chosen) = chosen.0 % 256 == 0x33

-- Arabic whatever the font has; Syriac unless that is DFLT; Myanmar unless it is for any script, or mymr, "that's tag used from
-- before Myanmar shaping spec was developed"; the others whatever it is, or unless it is for any script
abbrev pub category_in : Group → Direction → Option hb_tag_t → Category
category_in scripts.Arabic direction chosen = joining direction
category_in scripts.Syriac direction chosen = if has_chosen chosen 0x44464C54 then is.Default else joining direction
category_in scripts.Hangul direction chosen = is.Hangul
category_in scripts.Hebrew direction chosen = is.Hebrew
category_in scripts.Thai direction chosen = is.Thai
category_in scripts.Indic direction chosen = if is_third chosen then is.Universal else (if is_for_any chosen then is.Default else is.Indic)
category_in scripts.Khmer direction chosen = is.Khmer
category_in scripts.Myanmar direction chosen = if is_for_any chosen || has_chosen chosen 0x6D796D72 then is.Default else is.Myanmar
category_in scripts.Zawgyi direction chosen = is.Zawgyi
category_in scripts.Universal direction chosen = if is_for_any chosen then is.Default else is.Universal

-- the default shaper for a script of no group
abbrev pub category_by : Option Group → Direction → Option hb_tag_t → Category
category_by None direction chosen = is.Default
category_by (Some group) direction chosen = category_in group direction chosen

abbrev pub category_of : Option Script → Direction → Option hb_tag_t → Category
category_of None direction chosen = is.Default
category_of (Some script) direction chosen = category_by (group_of script) direction chosen

-- of horizontal texts, with a font that has lookups for the script, or none at all
abbrev pub served_by : Script → Category
served_by script = category_of (Some script) LeftToRight None

-- of a text, whose script and direction are guessed if they aren't set
abbrev pub category_for : {P : Type 0} → UnicodeMeaning → LayoutMeaning P → Buffer → Category
category_for unicode layout text =
    category_of (guessed_script unicode text) (guessed_direction unicode text)
    (layout.chosen_script (guessed_script unicode text) text.language GSUB)

-- the shapers whose runs lead a text to an equivalent one, whatever the Unicode functions and the font: they neither split nor
-- compose nor reorder marks by a hook, and leave a text as it is before normalising
abbrev pub preserves_equivalence : Category → Bool
preserves_equivalence is.Default = true
preserves_equivalence is.Arabic = false
preserves_equivalence is.Hangul = false
preserves_equivalence is.Hebrew = false
preserves_equivalence is.Thai = false
preserves_equivalence is.Universal = false
preserves_equivalence is.Khmer = false
preserves_equivalence is.Myanmar = true
preserves_equivalence is.Zawgyi = true
preserves_equivalence is.Indic = false

-- one of something for each shaper
pub record OfEach (A : Type 0) : Type 0 where
  pub default : A
  pub arabic : A
  pub hangul : A
  pub hebrew : A
  pub thai : A
  pub universal : A
  pub khmer : A
  pub myanmar : A
  pub zawgyi : A
  pub indic : A

abbrev pub of_category : {A : Type 0} → Category → OfEach A → A
of_category is.Default each = each.default
of_category is.Arabic each = each.arabic
of_category is.Hangul each = each.hangul
of_category is.Hebrew each = each.hebrew
of_category is.Thai each = each.thai
of_category is.Universal each = each.universal
of_category is.Khmer each = each.khmer
of_category is.Myanmar each = each.myanmar
of_category is.Zawgyi each = each.zawgyi
of_category is.Indic each = each.indic
