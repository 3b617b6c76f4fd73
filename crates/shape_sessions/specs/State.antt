-- What the lines so far have set, and what a line makes of it.
use Rattle.std.specs.Prelude.{ℕ, List, [], ◌∷◌}
use Rattle.std.specs.BTreeMap.{insert_entry}
use Rattle.std.specs.Ordering.{nat_cmp}
use Rattle.std.specs.Str.Parse.{digits_value, signed_digits_value}
use Rattle.shape_common.specs.declared.flags.BufferFlags.{BufferFlags}
use Rattle.shape_common.specs.declared.text_types.BufferClusterLevel.{BufferClusterLevel}
use Rattle.shape_common.specs.declared.text_types.BufferClusterLevel.TheVariants.{MonotoneGraphemes}
use Rattle.shape_common.specs.declared.text_types.Direction.{Direction}
use Rattle.shape_common.specs.declared.text_types.Direction.TheVariants.{Invalid}
use Rattle.shape_common.specs.declared.text_types.GlyphId.{GlyphId}
use Rattle.shape_common.specs.declared.map_face.Metrics.{Metrics}
use Rattle.shape_sessions.specs.Modes.{mode_of}
use Rattle.shape_sessions.specs.Settings.{IsNumber, IsUnits, IsGlyph, IsDirection, IsFlags, number, direction_said, extents_of, level_of}
use Rattle.shape_sessions.specs.Text.{IsText, IsPair, IsWidthAndText}
use Rattle.shape_sessions.specs.declared.command.Command.{Command}
use Rattle.shape_sessions.specs.declared.command.Command.TheVariants.{Face, Glyph, Mode, Level, Dir, Flags, Text, Same, Lines}
use Rattle.shape_sessions.specs.declared.mode.Mode.{Mode as AnyMode}
use Rattle.shape_sessions.specs.declared.mode.Mode.TheVariants.{Auto}

-- a face, which has the glyphs of characters and the metrics of glyphs, and how texts are shaped with it
pub record State : Type 0 where
  pub units_per_em : ℕ
  pub glyphs : List (ℕ × GlyphId)
  pub metrics : List (ℕ × Metrics)
  pub mode : AnyMode
  pub level : BufferClusterLevel
  pub direction : Direction
  pub flags : BufferFlags

-- before the first line
abbrev pub start : State
start = record {
  units_per_em = 1000;
  glyphs = [];
  metrics = [];
  mode = Auto;
  level = MonotoneGraphemes;
  direction = Invalid;
  flags = record { 0 = 0 };
}

-- a character's glyph and its metrics, in place of what was said of the two before
abbrev pub with_glyph : ℕ → GlyphId → Metrics → State → State
with_glyph c glyph metrics state = record state {
  glyphs = insert_entry nat_cmp state.glyphs c glyph;
  metrics = insert_entry nat_cmp state.metrics glyph.0 metrics;
}

-- what the words of a `glyph` line make of a state
abbrev pub with_glyph_words : List (List ℕ) → State → State
with_glyph_words (c ∷ glyph ∷ advance ∷ extents) state =
    with_glyph (digits_value 16 c) (record { 0 = digits_value 10 glyph })
    (record { advance = signed_digits_value 10 advance; extents = extents_of extents }) state
with_glyph_words _ state = state

-- what a line makes of a state: each sets one thing, a new face has no glyphs, and texts leave the state
abbrev pub set_by : Command → List (List ℕ) → State → State
set_by Face words state = record state { units_per_em = number words; glyphs = []; metrics = [] }
set_by Glyph words state = with_glyph_words words state
set_by Mode words state = record state { mode = mode_of (number words) }
set_by Level words state = record state { level = level_of (number words) }
set_by Dir words state = record state { direction = direction_said words }
set_by Flags words state = record state { flags = record { 0 = number words } }
set_by Text words state = state
set_by Same words state = state
set_by Lines words state = state

-- which words may stand after the first one
abbrev pub IsMeant : Command → List (List ℕ) → Type 0
IsMeant Face words = IsUnits words
IsMeant Glyph words = IsGlyph words
IsMeant Mode words = IsNumber 4 words
IsMeant Level words = IsNumber 2 words
IsMeant Dir words = IsDirection words
IsMeant Flags words = IsFlags words
IsMeant Text words = IsText words
IsMeant Same words = IsPair words
IsMeant Lines words = IsWidthAndText words
