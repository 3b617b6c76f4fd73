-- Guessing what a caller left open.
use Rattle.std.specs.Prelude.{List, Option, Some, None, map, find}
pub use Rattle.shape_common.specs.ScriptTags.{is_specific}
use Rattle.shape_items.specs.Items.{Item}
use Rattle.shape_items.specs.Buffer.{Buffer}
use Rattle.shape_common.specs.Unicode.{UnicodeMeaning}
use Rattle.shape_common.specs.declared.text_types.Script.{Script}
use Rattle.shape_common.specs.declared.text_types.Direction.{Direction}
use Rattle.shape_common.specs.declared.text_types.Direction.TheVariants.{Invalid, LeftToRight}

-- the first specific script of the characters
abbrev pub first_script : UnicodeMeaning → List Item → Option Script
first_script unicode items = find is_specific (map (λ item. unicode.script item.codepoint) items)

-- the script if one is set, else the first specific one of the text
abbrev pub script_or : Option Script → Option Script → Option Script
script_or (Some script) other = Some script
script_or None other = other

abbrev pub guessed_script : UnicodeMeaning → Buffer → Option Script
guessed_script unicode b = script_or b.script (first_script unicode b.items)

-- the direction that was found, left to right if it is none or Invalid
abbrev pub known_or_ltr : Option Direction → Direction
known_or_ltr None = LeftToRight
known_or_ltr (Some Invalid) = LeftToRight
known_or_ltr (Some direction) = direction

-- the direction of a script, left to right if none is known
abbrev pub script_or_ltr : UnicodeMeaning → Option Script → Direction
script_or_ltr unicode None = LeftToRight
script_or_ltr unicode (Some script) = known_or_ltr (unicode.script_direction script)

-- the direction if one is set, else the other
abbrev pub direction_or : Direction → Direction → Direction
direction_or Invalid other = other
direction_or direction other = direction

abbrev pub guessed_direction : UnicodeMeaning → Buffer → Direction
guessed_direction unicode b = direction_or b.direction (script_or_ltr unicode (guessed_script unicode b))

-- the buffer with script and direction guessed if they weren't set
abbrev pub guessed : UnicodeMeaning → Buffer → Buffer
guessed unicode b = record b { script = guessed_script unicode b; direction = guessed_direction unicode b }
