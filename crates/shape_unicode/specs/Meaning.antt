-- What the Unicode functions return: the character database, and where shaping differs from it.
use Rattle.ucd_emoji.specs.Binary.{is_extended_pictographic}
use Rattle.ucd_script.specs.Script.{script}
use Rattle.unicode_normalization.specs.Compose.{primary_composite}
use Rattle.shape_common.specs.Unicode.{UnicodeMeaning}
use Rattle.shape_unicode.specs.Category.{category_of}
use Rattle.shape_unicode.specs.Ccc.{modified_ccc_of}
use Rattle.shape_unicode.specs.Split.{split_of, height_of}
use Rattle.shape_unicode.specs.Mirror.{mirrored_of}
use Rattle.shape_unicode.specs.Vertical.{vertical_of}
use Rattle.shape_unicode.specs.Space.{space_of}
use Rattle.shape_unicode.specs.Hidden.{is_ignorable, is_selector}
use Rattle.shape_unicode.specs.Script.{script_from}
use Rattle.shape_unicode.specs.ScriptDirection.{direction_of}

-- each result by its own definition
abbrev pub unicode_database : UnicodeMeaning
unicode_database =
    record {
      category = category_of;
      ccc = modified_ccc_of;
      split = split_of;
      height = height_of;
      compose = primary_composite;
      mirrored = mirrored_of;
      vertical = vertical_of;
      space_fallback = space_of;
      ignorable = is_ignorable;
      pictographic = is_extended_pictographic;
      selector = is_selector;
      script = λ c. script_from (script c);
      script_direction = direction_of;
    }
