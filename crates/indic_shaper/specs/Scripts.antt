-- How scripts differ: their virama, how they write a reph, and where a reph goes beside the base and its forms.
use Rattle.std.specs.Prelude.{ℕ, ◌==◌, true, false, Option, None, Some, if◌then◌else◌}
use Rattle.shape_common.specs.declared.text_types.Script.{Script}
use Rattle.indic_shaper.specs.declared.config.Config.{Config}
use Rattle.indic_shaper.specs.declared.config.RephMode.TheVariants.{Implicit, Explicit, Encoded}
use Rattle.indic_shaper.specs.declared.config.TheConstants.{DEVANAGARI, BENGALI, GURMUKHI, GUJARATI, ORIYA, TAMIL}
use Rattle.indic_shaper.specs.declared.config.TheConstants.{TELUGU, KANNADA, MALAYALAM}
use Rattle.indic_shaper.specs.declared.categories.TheConstants.{POS_AFTER_MAIN, POS_BEFORE_SUB, POS_AFTER_SUB}
use Rattle.indic_shaper.specs.declared.categories.TheConstants.{POS_BEFORE_POST, POS_AFTER_POST}

abbrev pub tag_of : Option Script → ℕ
tag_of None = 0
tag_of (Some script) = script.0.0

-- Ra and Halant at the beginning are a reph, which takes this place; forms below the base are made before it, too
abbrev pub implicit : (virama reph_position : ℕ) → Config
implicit virama reph_position = record {
  has_old_spec = true;
  virama = Some virama;
  reph_position = reph_position;
  reph_mode = Implicit;
  below_before_base = true;
}

-- Ra, Halant and ZWJ are; below the base only forms after it are made
abbrev pub telugu : Config
telugu = record {
  has_old_spec = true;
  virama = Some 0xC4D;
  reph_position = POS_AFTER_POST;
  reph_mode = Explicit;
  below_before_base = false;
}

abbrev pub kannada : Config
kannada = record {
  has_old_spec = true;
  virama = Some 0xCCD;
  reph_position = POS_AFTER_POST;
  reph_mode = Implicit;
  below_before_base = false;
}

-- a reph is a character of its own, U+0D4E
abbrev pub malayalam : Config
malayalam = record {
  has_old_spec = true;
  virama = Some 0xD4D;
  reph_position = POS_AFTER_MAIN;
  reph_mode = Encoded;
  below_before_base = true;
}

abbrev pub other : Config
other = record {
  has_old_spec = false;
  virama = None;
  reph_position = POS_BEFORE_POST;
  reph_mode = Implicit;
  below_before_base = true;
}

abbrev pub config_of : ℕ → Config
config_of tag =
    if tag == DEVANAGARI then implicit 0x94D POS_BEFORE_POST
    else if tag == BENGALI then implicit 0x9CD POS_AFTER_SUB
    else if tag == GURMUKHI then implicit 0xA4D POS_BEFORE_SUB
    else if tag == GUJARATI then implicit 0xACD POS_BEFORE_POST
    else if tag == ORIYA then implicit 0xB4D POS_AFTER_MAIN
    else if tag == TAMIL then implicit 0xBCD POS_AFTER_POST
    else if tag == TELUGU then telugu
    else if tag == KANNADA then kannada
    else if tag == MALAYALAM then malayalam
    else other
