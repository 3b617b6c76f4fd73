-- What the program's Unicode functions return.
use Rattle.shape_common.specs.Unicode.{UnicodeMeaning}
use Rattle.shape_sessions.specs.Category.{category_of}
use Rattle.shape_sessions.specs.Ccc.{ccc_of}
use Rattle.shape_sessions.specs.Split.{split_of, height_of}
use Rattle.shape_sessions.specs.Compose.{compose_of}
use Rattle.shape_sessions.specs.Mirror.{mirror_of}
use Rattle.shape_sessions.specs.Vertical.{vertical_of}
use Rattle.shape_sessions.specs.Pictograph.{is_pictograph}
use Rattle.shape_sessions.specs.Ignorable.{is_ignorable}
use Rattle.shape_sessions.specs.Selector.{is_selector}
use Rattle.shape_sessions.specs.Scripts.{script_of, direction_of_script}
use Rattle.shape_unicode.specs.Space.{space_of}

abbrev pub unicode_tables : UnicodeMeaning
unicode_tables = record {
  category = category_of;
  ccc = ccc_of;
  split = split_of;
  height = height_of;
  compose = compose_of;
  mirrored = mirror_of;
  vertical = vertical_of;
  space_fallback = space_of;
  ignorable = is_ignorable;
  pictographic = is_pictograph;
  selector = is_selector;
  script = script_of;
  script_direction = direction_of_script;
}
