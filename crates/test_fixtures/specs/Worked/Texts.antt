-- What a text brings into a buffer, where its graphemes stand, what is guessed of it, and what clearing leaves, worked
-- by hand.
use Rattle.std.specs.Prelude.{◌≡◌, ℕ, ◌==◌, Bool, true, false, if◌then◌else◌, List, [], ◌∷◌, map, Option, Some, None, pos, refl}
use Rattle.std.specs.Str.{chars}
use Rattle.shape_items.specs.Buffer.{Buffer, new_buffer, cleared, limit_of}
use Rattle.shape_items.specs.GraphemeSpans.{grapheme_spans}
use Rattle.shape_buffer.specs.Guess.{is_specific, guessed_script, guessed_direction, guessed}
use Rattle.shape_items.specs.Items.{Item, new_item}
use Rattle.shape_buffer.specs.Text.{text_items, context_before, context_after}
use Rattle.shape_common.specs.Unicode.{UnicodeMeaning}
use Rattle.shape_common.specs.declared.text_types.BufferClusterLevel.TheVariants.{MonotoneGraphemes, Characters}
use Rattle.shape_common.specs.declared.text_types.Direction.{Direction}
use Rattle.shape_common.specs.declared.text_types.Direction.TheVariants.{Invalid, LeftToRight, RightToLeft, TopToBottom, BottomToTop}
use Rattle.shape_common.specs.declared.text_types.Script.{Script}
use Rattle.shape_common.specs.PlainUnicode.{plain_unicode}

-- ---- characters of a text

-- U+0061 U+00E9 U+20AC U+1F600 U+0062 in UTF-8: 1, 2, 3, 4 and 1 bytes
abbrev widths : List ℕ
widths = 0x61 ∷ 0xC3 ∷ 0xA9 ∷ 0xE2 ∷ 0x82 ∷ 0xAC ∷ 0xF0 ∷ 0x9F ∷ 0x98 ∷ 0x80 ∷ 0x62 ∷ []

pub record CharactersOfTexts : Type 0 where
  pub widths_are : text_items widths
      ≡ new_item 0x61 0 ∷ new_item 0xE9 1 ∷ new_item 0x20AC 3 ∷ new_item 0x1F600 6 ∷ new_item 0x62 10 ∷ []
  pub none : text_items [] ≡ []
  -- `ab12345`, `12345` and `é12345`: five characters, in their order, from the end that touches the text
  pub before : context_before (0x61 ∷ 0x62 ∷ 0x31 ∷ 0x32 ∷ 0x33 ∷ 0x34 ∷ 0x35 ∷ []) ≡ 0x31 ∷ 0x32 ∷ 0x33 ∷ 0x34 ∷ 0x35 ∷ []
  pub behind : context_after (0x61 ∷ 0x62 ∷ 0x31 ∷ 0x32 ∷ 0x33 ∷ 0x34 ∷ 0x35 ∷ []) ≡ 0x61 ∷ 0x62 ∷ 0x31 ∷ 0x32 ∷ 0x33 ∷ []
  pub five_before : context_before (0x31 ∷ 0x32 ∷ 0x33 ∷ 0x34 ∷ 0x35 ∷ []) ≡ 0x31 ∷ 0x32 ∷ 0x33 ∷ 0x34 ∷ 0x35 ∷ []
  pub five_after : context_after (0x31 ∷ 0x32 ∷ 0x33 ∷ 0x34 ∷ 0x35 ∷ []) ≡ 0x31 ∷ 0x32 ∷ 0x33 ∷ 0x34 ∷ 0x35 ∷ []
  pub six_before : context_before (0xC3 ∷ 0xA9 ∷ 0x31 ∷ 0x32 ∷ 0x33 ∷ 0x34 ∷ 0x35 ∷ []) ≡ 0x31 ∷ 0x32 ∷ 0x33 ∷ 0x34 ∷ 0x35 ∷ []
  pub six_after : context_after (0xC3 ∷ 0xA9 ∷ 0x31 ∷ 0x32 ∷ 0x33 ∷ 0x34 ∷ 0x35 ∷ []) ≡ 0xE9 ∷ 0x31 ∷ 0x32 ∷ 0x33 ∷ 0x34 ∷ []
  pub few_before : context_before (0xC3 ∷ 0xA9 ∷ 0x31 ∷ []) ≡ 0xE9 ∷ 0x31 ∷ []
  pub few_after : context_after (0xC3 ∷ 0xA9 ∷ 0x31 ∷ []) ≡ 0xE9 ∷ 0x31 ∷ []
  pub none_before : context_before [] ≡ []
  pub none_after : context_after [] ≡ []

characters_of_texts : CharactersOfTexts
unfolding chars
characters_of_texts = record {
  widths_are = refl;
  none = refl;
  before = refl;
  behind = refl;
  five_before = refl;
  five_after = refl;
  six_before = refl;
  six_after = refl;
  few_before = refl;
  few_after = refl;
  none_before = refl;
  none_after = refl;
}

-- ---- graphemes

abbrev continuing : Bool → Item
continuing continues =
    let item = new_item 0x61 0 in
    record item { properties = record item.properties { continuation = continues } }

-- the spans of the graphemes of items of which these continue the one before
abbrev spans_of : List Bool → List (ℕ × ℕ)
spans_of each = grapheme_spans (map continuing each)

pub record GraphemesOfTexts : Type 0 where
  pub none : spans_of [] ≡ []
  pub one : spans_of (false ∷ []) ≡ (0, 1) ∷ []
  -- there is none before the first item
  pub first_continues : spans_of (true ∷ false ∷ []) ≡ (0, 1) ∷ (1, 2) ∷ []
  pub all_continue : spans_of (true ∷ true ∷ true ∷ []) ≡ (0, 3) ∷ []
  pub long_and_short : spans_of (false ∷ false ∷ true ∷ true ∷ false ∷ true ∷ []) ≡ (0, 1) ∷ (1, 4) ∷ (4, 6) ∷ []

graphemes_of_texts : GraphemesOfTexts
graphemes_of_texts = record { none = refl; one = refl; first_continues = refl; all_continue = refl; long_and_short = refl }

-- ---- guessing

-- a script by the number of its tag
abbrev script : ℕ → Script
script number = record { 0 = record { 0 = number } }

abbrev common : Script
common = script 0x5A797979

abbrev inherited : Script
inherited = script 0x5A696E68

abbrev unknown : Script
unknown = script 0x5A7A7A7A

abbrev latin : Script
latin = script 0x4C61746E

abbrev hebrew : Script
hebrew = script 0x48656272

abbrev mongolian : Script
mongolian = script 0x4D6F6E67

-- Runr, of which no direction is known
abbrev runic : Script
runic = script 0x52756E72

-- Ital, of which Invalid is answered
abbrev italic : Script
italic = script 0x4974616C

-- Ogam, from the bottom up
abbrev ogham : Script
ogham = script 0x4F67616D

abbrev script_of : ℕ → Script
script_of c =
    if c == 0x20 then common
    else if c == 0x301 then inherited
    else if c == 0x61 then latin
    else if c == 0x5D0 then hebrew
    else if c == 0x1820 then mongolian
    else if c == 0x16A0 then runic
    else if c == 0x10300 then italic
    else if c == 0x1681 then ogham
    else unknown

abbrev direction_of : Script → Option Direction
direction_of s =
    if s.0.0 == 0x4C61746E then Some LeftToRight
    else if s.0.0 == 0x48656272 then Some RightToLeft
    else if s.0.0 == 0x4D6F6E67 then Some TopToBottom
    else if s.0.0 == 0x4F67616D then Some BottomToTop
    else if s.0.0 == 0x4974616C then Some Invalid
    else None

abbrev scripts : UnicodeMeaning
scripts = record plain_unicode { script = script_of; script_direction = direction_of }

-- a text of these characters, for which nothing is set
abbrev text : List ℕ → Buffer
text chars = record new_buffer { items = map (λ c. new_item c 0) chars }

pub record GuessedScripts : Type 0 where
  pub specific : map is_specific (common ∷ inherited ∷ unknown ∷ latin ∷ []) ≡ false ∷ false ∷ false ∷ true ∷ []
  -- tags beside the three
  pub before_them : map is_specific (script 0x5A797978 ∷ script 0x5A696E67 ∷ script 0x5A7A7A79 ∷ []) ≡ true ∷ true ∷ true ∷ []
  pub after_them : map is_specific (script 0x5A79797A ∷ script 0x5A696E69 ∷ script 0x5A7A7A7B ∷ []) ≡ true ∷ true ∷ true ∷ []
  pub first_specific : guessed_script scripts (text (0x20 ∷ 0x301 ∷ 0xE000 ∷ 0x61 ∷ 0x5D0 ∷ [])) ≡ Some latin
  pub first_of_two : guessed_script scripts (text (0x5D0 ∷ 0x61 ∷ 0x61 ∷ [])) ≡ Some hebrew
  pub none_specific : guessed_script scripts (text (0x20 ∷ 0x301 ∷ 0xE000 ∷ [])) ≡ None
  pub no_text : guessed_script scripts (text []) ≡ None
  pub given : guessed_script scripts (record (text (0x61 ∷ [])) { script = Some hebrew }) ≡ Some hebrew
  pub given_common : guessed_script scripts (record (text (0x61 ∷ [])) { script = Some common }) ≡ Some common

guessed_scripts : GuessedScripts
guessed_scripts = record {
  specific = refl;
  before_them = refl;
  after_them = refl;
  first_specific = refl;
  first_of_two = refl;
  none_specific = refl;
  no_text = refl;
  given = refl;
  given_common = refl;
}

-- a text with a direction that is set
abbrev set : Direction → List ℕ → Buffer
set direction chars = record (text chars) { direction = direction }

pub record GuessedDirections : Type 0 where
  pub of_latin : guessed_direction scripts (text (0x61 ∷ 0x5D0 ∷ [])) ≡ LeftToRight
  pub of_hebrew : guessed_direction scripts (text (0x20 ∷ 0x5D0 ∷ 0x61 ∷ [])) ≡ RightToLeft
  pub of_mongolian : guessed_direction scripts (text (0x1820 ∷ [])) ≡ TopToBottom
  pub of_ogham : guessed_direction scripts (text (0x1681 ∷ [])) ≡ BottomToTop
  -- none is known
  pub of_runic : guessed_direction scripts (text (0x16A0 ∷ 0x5D0 ∷ [])) ≡ LeftToRight
  pub of_italic : guessed_direction scripts (text (0x10300 ∷ 0x5D0 ∷ [])) ≡ LeftToRight
  pub of_no_script : guessed_direction scripts (text (0x20 ∷ [])) ≡ LeftToRight
  -- that of a script that is set, whatever the text is
  pub of_set_script : guessed_direction scripts (record (text (0x61 ∷ [])) { script = Some hebrew }) ≡ RightToLeft
  pub of_set_common : guessed_direction scripts (record (text (0x5D0 ∷ [])) { script = Some common }) ≡ LeftToRight
  -- one that is set stays
  pub rightward : guessed_direction scripts (set LeftToRight (0x5D0 ∷ [])) ≡ LeftToRight
  pub leftward : guessed_direction scripts (set RightToLeft (0x61 ∷ [])) ≡ RightToLeft
  pub downward : guessed_direction scripts (set TopToBottom (0x5D0 ∷ [])) ≡ TopToBottom
  pub upward : guessed_direction scripts (set BottomToTop (0x5D0 ∷ [])) ≡ BottomToTop

guessed_directions : GuessedDirections
guessed_directions = record {
  of_latin = refl;
  of_hebrew = refl;
  of_mongolian = refl;
  of_ogham = refl;
  of_runic = refl;
  of_italic = refl;
  of_no_script = refl;
  of_set_script = refl;
  of_set_common = refl;
  rightward = refl;
  leftward = refl;
  downward = refl;
  upward = refl;
}

-- ---- settings

-- a Hebrew letter in a buffer with these settings, and all others set besides
abbrev with_all : Direction → Option Script → Buffer
with_all direction script = record {
  items = new_item 0x5D0 7 ∷ [];
  positions = record { x_advance = pos 1; y_advance = pos 2; x_offset = pos 3; y_offset = pos 4; attach_chain = pos 5; attach_type = 6 } ∷ [];
  direction = direction;
  script = script;
  language = Some (0x68 ∷ 0x65 ∷ []);
  flags = record { 0 = 66 };
  cluster_level = Characters;
  invisible_glyph = Some (record { 0 = 3 });
  not_found_variation_selector_glyph = Some (record { 0 = 4 });
  scratch_flags = record { 0 = 63 };
  length_limit = Some 16384;
  max_ops = 1000;
  serial = 5;
  pre_context = 0x61 ∷ [];
  post_context = 0x62 ∷ [];
}

-- guessing sets script and direction alone; clearing leaves flags, level and the two glyphs; a new buffer has nothing
-- set
pub record Settings : Type 0 where
  pub guessed_alone : guessed scripts (with_all Invalid None) ≡ with_all RightToLeft (Some hebrew)
  pub nothing_to_guess : guessed scripts (with_all BottomToTop (Some latin)) ≡ with_all BottomToTop (Some latin)
  pub made : new_buffer ≡ record {
    items = [];
    positions = [];
    direction = Invalid;
    script = None;
    language = None;
    flags = record { 0 = 0 };
    cluster_level = MonotoneGraphemes;
    invisible_glyph = None;
    not_found_variation_selector_glyph = None;
    scratch_flags = record { 0 = 0 };
    length_limit = None;
    max_ops = 18446744073709551615;
    serial = 0;
    pre_context = [];
    post_context = [];
  }
  pub cleared_of_text : cleared (with_all RightToLeft (Some hebrew)) ≡ record {
    items = [];
    positions = [];
    direction = Invalid;
    script = None;
    language = None;
    flags = record { 0 = 66 };
    cluster_level = Characters;
    invisible_glyph = Some (record { 0 = 3 });
    not_found_variation_selector_glyph = Some (record { 0 = 4 });
    scratch_flags = record { 0 = 0 };
    length_limit = None;
    max_ops = 18446744073709551615;
    serial = 0;
    pre_context = [];
    post_context = [];
  }
  pub limited : limit_of (with_all RightToLeft None) ≡ 16384
  pub unlimited : limit_of new_buffer ≡ 18446744073709551615

settings : Settings
settings = record {
  guessed_alone = refl;
  nothing_to_guess = refl;
  made = refl;
  cleared_of_text = refl;
  limited = refl;
  unlimited = refl;
}

pub record WorkedTexts : Type 0 where
  pub characters : CharactersOfTexts
  pub graphemes : GraphemesOfTexts
  pub scripts : GuessedScripts
  pub directions : GuessedDirections
  pub settings : Settings

pub worked_texts : WorkedTexts
worked_texts = record {
  characters = characters_of_texts;
  graphemes = graphemes_of_texts;
  scripts = guessed_scripts;
  directions = guessed_directions;
  settings = settings;
}
