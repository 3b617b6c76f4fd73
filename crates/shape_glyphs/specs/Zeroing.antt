-- Marks lose their advances, before or after tables place them.
use Rattle.std.specs.Prelude.{ℕ, pos, ◌==◌, ◌&&◌, Bool, Option, if◌then◌else◌}
use Rattle.std.specs.Int.RustNames.{bit_and}
use Rattle.std.specs.Option.{option_map_or}
use Rattle.shape_items.specs.Buffer.{Buffer}
use Rattle.shape_common.specs.Direction.{is_forward}
use Rattle.shape_items.specs.Items.{Item}
use Rattle.shape_buffer.specs.PositionWalks.{positions_mapped}
use Rattle.shape_common.specs.Wrapping.{◌-ʷ◌}
use Rattle.shape_common.specs.declared.positions.GlyphPosition.{GlyphPosition}
use Rattle.shape_plan.specs.Run.{Run, step_if}
use Rattle.shape_plan.specs.Shaper.{ShaperConstants, HookMeaning}
use Rattle.shape_plan.specs.declared.decisions.Decisions.{Decisions}
use Rattle.shape_common.specs.FlagNames.{MARK}

-- the glyph's class has the bit of marks
abbrev pub is_mark_glyph : Item → Bool
is_mark_glyph item = bit_and item.properties.glyph_class.0 MARK == MARK

abbrev pub without_advances : GlyphPosition → GlyphPosition
without_advances position = record position { x_advance = pos 0; y_advance = pos 0 }

-- the position moved back by its advances
abbrev pub moved_back : GlyphPosition → GlyphPosition
moved_back position = record position {
  x_offset = position.x_offset -ʷ position.x_advance;
  y_offset = position.y_offset -ʷ position.y_advance;
}

-- a mark has no advances; if it is adjusted, its offsets lose them first
abbrev pub zeroed_mark : Bool → Item → GlyphPosition → GlyphPosition
zeroed_mark adjust item position =
    if is_mark_glyph item then without_advances (if adjust then moved_back position else position) else position

-- marks are adjusted in a forward buffer alone
unfoldable pub marks_zeroed : Bool → Buffer → Buffer
marks_zeroed adjust b = positions_mapped (zeroed_mark (adjust && is_forward b.direction)) b

-- the times that a shaper may name: never, before tables place the marks, after that
abbrev pub ZERO_WIDTH_MARKS_NONE : ℕ
ZERO_WIDTH_MARKS_NONE = 0

abbrev pub ZERO_WIDTH_MARKS_BY_GDEF_EARLY : ℕ
ZERO_WIDTH_MARKS_BY_GDEF_EARLY = 1

abbrev pub ZERO_WIDTH_MARKS_BY_GDEF_LATE : ℕ
ZERO_WIDTH_MARKS_BY_GDEF_LATE = 2

-- when marks lose their advances: by the constant of the shaper that the plan uses, never if it uses none
abbrev pub zero_width_time : ShaperConstants → Option HookMeaning → ℕ
zero_width_time constants hooks = option_map_or (λ _. constants.zero_width_marks) hooks ZERO_WIDTH_MARKS_NONE

-- zeroing at a time: if the plan zeroes marks and the shaper's time is this one
abbrev pub zeroed_at : ℕ → Decisions → ShaperConstants → Option HookMeaning → Buffer → Buffer
zeroed_at time decisions constants hooks =
    step_if (decisions.zero_marks && (zero_width_time constants hooks == time))
    (marks_zeroed decisions.adjust_mark_positioning_when_zeroing)

abbrev pub zeroed_early : Run → Buffer → Buffer
zeroed_early run = zeroed_at ZERO_WIDTH_MARKS_BY_GDEF_EARLY run.decisions run.constants run.hooks

abbrev pub zeroed_late : Run → Buffer → Buffer
zeroed_late run = zeroed_at ZERO_WIDTH_MARKS_BY_GDEF_LATE run.decisions run.constants run.hooks
