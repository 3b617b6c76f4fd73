-- What the fallback steps do to clusters and flags.
use Rattle.std.specs.Prelude.{Option}
use Rattle.shape_common.specs.Face.{FaceMeaning}
use Rattle.shape_items.specs.Buffer.{Buffer}
use Rattle.shape_common.specs.Unicode.{UnicodeMeaning}
use Rattle.shape_common.specs.declared.text_types.Direction.{Direction}
use Rattle.shape_common.specs.declared.text_types.Script.{Script}
use Rattle.shape_plan.specs.declared.decisions.Decisions.{Decisions}
use Rattle.shape_fallback.specs.DueSteps.{recategorize_step, spaces_step, marks_step}

-- a property of each fallback step, under a plan of this direction and script, with these decisions
pub record EachFallback (Preserves : (Buffer → Buffer) → Type 0) (unicode : UnicodeMeaning) (face : FaceMeaning) (direction : Direction)
    (script : Option Script) (decisions : Decisions) : Type 0 where
  pub recategorize : Preserves (recategorize_step decisions)
  pub spaces : Preserves (spaces_step face)
  pub marks : Preserves (marks_step unicode face direction script decisions)
