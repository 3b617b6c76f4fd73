-- The text that a run asks to be shaped.
use Rattle.std.specs.Prelude.{◌≡◌, ◌≤◌, ◌-◌, ◌++◌, ℕ, List, true, length, take, drop, replicate}
use Rattle.std.specs.Str.{IsUtf8}
use Rattle.shape_buffer.specs.Text.{text_items, context_before, context_after}
use Rattle.shape_common.specs.Positions.{zero_position}
use Rattle.shape_items.specs.Buffer.{Buffer, new_buffer}
use Rattle.shape_items.specs.Items.{Item}
use Rattle.shape_text_forms.specs.Names.{language_of_text}
use Rattle.utf16_text.specs.Utf16.{utf16_items, utf16_before, utf16_after}
use Rattle.c_runs.specs.Numbers.{direction_of, is_direction, script_of, level_of, is_level}
use Rattle.c_runs.specs.declared.plain.luthgarn_run.{luthgarn_run}
use Rattle.c_runs.specs.declared.texts.Text.{Text}
use Rattle.c_runs.specs.declared.texts.Text.TheVariants as given

-- a text by its units: bytes of UTF-8, or units of UTF-16
pub data Units : Type 0 where
  Utf8 : List ℕ → Units
  Utf16 : List ℕ → Units

abbrev pub units_of : Text → Units
units_of (given.Utf8 bytes) = Utf8 bytes.now
units_of (given.Utf16 units) = Utf16 units.now

abbrev pub unit_count : Units → ℕ
unit_count (Utf8 bytes) = length bytes
unit_count (Utf16 units) = length units

-- the units from one place up to another
abbrev pub part_of : List ℕ → ℕ → ℕ → List ℕ
part_of units from to = take (to - from) (drop from units)

-- they are text: bytes that are UTF-8, and any units of UTF-16, where a surrogate in no pair stands for U+FFFD
abbrev pub IsTextPart : Units → ℕ → ℕ → Type 0
IsTextPart (Utf8 bytes) from to = IsUtf8 (part_of bytes from to)
IsTextPart (Utf16 units) from to = Unit

-- an item for each of their characters, in the cluster of its first unit
abbrev pub items_between : Units → ℕ → ℕ → List Item
items_between (Utf8 bytes) from to = text_items (part_of bytes from to)
items_between (Utf16 units) from to = utf16_items (part_of units from to)

-- their last characters, and their first ones
abbrev pub last_between : Units → ℕ → ℕ → List ℕ
last_between (Utf8 bytes) from to = context_before (part_of bytes from to)
last_between (Utf16 units) from to = utf16_before (part_of units from to)

abbrev pub first_between : Units → ℕ → ℕ → List ℕ
first_between (Utf8 bytes) from to = context_after (part_of bytes from to)
first_between (Utf16 units) from to = utf16_after (part_of units from to)

-- the places of a run are in order and in the text, and its direction and its level are known
pub record IsPlaced (text : Units) (run : luthgarn_run) : Type 0 where
  pub before : run.before ≤ run.start
  pub own : run.start ≤ run.end
  pub after : run.end ≤ run.after
  pub within : run.after ≤ unit_count text
  pub direction : is_direction run.direction ≡ true
  pub level : is_level run.level ≡ true

-- its units, those beside it and the name of its language are text
pub record IsText (text : Units) (run : luthgarn_run) : Type 0 where
  pub before : IsTextPart text run.before run.start
  pub own : IsTextPart text run.start run.end
  pub after : IsTextPart text run.end run.after
  pub language : IsUtf8 run.language

-- what a run asks for, with no text yet
abbrev pub asked_of : luthgarn_run → Buffer
asked_of run = record new_buffer {
  direction = direction_of run.direction;
  script = script_of run.script;
  language = language_of_text run.language;
  flags = record { 0 = run.flags };
  cluster_level = level_of run.level;
}

-- the characters of the run, each in the cluster of its first unit, which counts from the start of the run, and what the run asks for
abbrev pub text_of_run : Units → luthgarn_run → Buffer
text_of_run text run = record (asked_of run) {
  items = items_between text run.start run.end;
  positions = replicate (length (items_between text run.start run.end)) zero_position;
  pre_context = last_between text run.before run.start;
  post_context = first_between text run.end run.after;
}

-- a name with zeros behind it, so many bytes
abbrev pub filled_up : ℕ → List ℕ → List ℕ
filled_up n name = name ++ replicate (n - length name) 0
