-- The steps of a run that replace lookups, each with the test whether it is due.
use Rattle.std.specs.Prelude.{◌==◌, ◌&&◌, Bool, Option}
use Rattle.std.specs.Int.RustNames.{bit_and}
use Rattle.shape_items.specs.Buffer.{Buffer}
use Rattle.shape_common.specs.Direction.{is_forward}
use Rattle.shape_common.specs.Face.{FaceMeaning}
use Rattle.shape_common.specs.Unicode.{UnicodeMeaning}
use Rattle.shape_common.specs.declared.text_types.Direction.{Direction}
use Rattle.shape_common.specs.declared.text_types.Script.{Script}
use Rattle.shape_plan.specs.Run.{step_if}
use Rattle.shape_plan.specs.declared.decisions.Decisions.{Decisions}
use Rattle.shape_fallback.specs.Bases.{marks_positioned}
use Rattle.shape_fallback.specs.Recategorized.{recategorized}
use Rattle.shape_fallback.specs.Spaces.{spaces_placed}
use Rattle.shape_common.specs.FlagNames.{HAS_SPACE_FALLBACK}

-- ccc change if the plan places marks by their extents
abbrev pub recategorize_step : Decisions → Buffer → Buffer
recategorize_step decisions = step_if decisions.fallback_mark_positioning recategorized

-- the scratch flag "has space fallback" is set
abbrev pub has_space_fallback : Buffer → Bool
has_space_fallback b = bit_and b.scratch_flags.0 HAS_SPACE_FALLBACK == HAS_SPACE_FALLBACK

-- spaces are placed if one without a glyph was seen
unfoldable pub spaces_step : FaceMeaning → Buffer → Buffer
spaces_step face b = step_if (has_space_fallback b) (spaces_placed face) b

-- a base without extents takes the advances of its marks into their offsets if the plan adjusts, and in forward text
-- alone
unfoldable pub marks_adjusted : UnicodeMeaning → FaceMeaning → Direction → Option Script → Decisions → Buffer → Buffer
marks_adjusted unicode face direction script decisions b =
    marks_positioned unicode face direction script (decisions.adjust_mark_positioning_when_zeroing && is_forward b.direction) b

-- marks are placed if the plan places them by their extents
abbrev pub marks_step : UnicodeMeaning → FaceMeaning → Direction → Option Script → Decisions → Buffer → Buffer
marks_step unicode face direction script decisions =
    step_if decisions.fallback_mark_positioning (marks_adjusted unicode face direction script decisions)
