-- What positions and the end of a run preserve of a buffer, step by step.
use Rattle.std.specs.Prelude.{Bool}
use Rattle.shape_items.specs.Buffer.{Buffer}
use Rattle.shape_common.specs.Face.{FaceMeaning}
use Rattle.shape_items.specs.Flags.{flags_propagated}
use Rattle.shape_buffer.specs.Preservation.{IsClusterPreserving, IsFlagPreserving, EachStep}
use Rattle.shape_plan.specs.Preservation.{CallsPreserveClusters, RunPreservesFlags}
use Rattle.shape_plan.specs.Run.{Run}
use Rattle.shape_glyphs.specs.Advances.{positions_cleared, advanced}
use Rattle.shape_glyphs.specs.Ignorables.{ignorables_zeroed, ignorables_hidden}
use Rattle.shape_glyphs.specs.StepEffects.{PreservesLengths, ReversesOrder}
use Rattle.shape_glyphs.specs.Selectors.{selectors_replaced}
use Rattle.shape_glyphs.specs.Steps.{advance_steps, table_steps, show_steps, finish_steps}
use Rattle.shape_glyphs.specs.Reversal.{reversed}
use Rattle.shape_glyphs.specs.Zeroing.{marks_zeroed}

-- every step preserves the order of clusters, except the reversal, which inverts it if the text runs backward
pub record StepsPreserveClusters : Type 0 where
  pub advances : (run : Run) → EachStep IsClusterPreserving (advance_steps run)
  pub tables : (run : Run) → CallsPreserveClusters run → EachStep IsClusterPreserving (table_steps run)
  pub reversal : (b : Buffer) → ReversesOrder b (reversed b)
  pub showing : (run : Run) → CallsPreserveClusters run → EachStep IsClusterPreserving (show_steps run)
  pub flags : IsClusterPreserving flags_propagated

-- every step preserves flags
pub record StepsPreserveFlags : Type 0 where
  pub advances : (run : Run) → EachStep IsFlagPreserving (advance_steps run)
  pub tables : (run : Run) → RunPreservesFlags run → EachStep IsFlagPreserving (table_steps run)
  pub finish : (run : Run) → RunPreservesFlags run → EachStep IsFlagPreserving (finish_steps run)

-- the steps that write positions or items, reverse them or delete some leave as many positions as items
pub record StepsPreserveCount : Type 0 where
  pub cleared : PreservesLengths positions_cleared
  pub advances : (face : FaceMeaning) → PreservesLengths (advanced face)
  pub marks : (adjust : Bool) → PreservesLengths (marks_zeroed adjust)
  pub ignorables : PreservesLengths ignorables_zeroed
  pub reversal : PreservesLengths reversed
  pub selectors : PreservesLengths selectors_replaced
  pub hiding : (face : FaceMeaning) → PreservesLengths (ignorables_hidden face)
  pub flags : PreservesLengths flags_propagated

-- the three together
pub record StepsPreserve : Type 0 where
  pub clusters : StepsPreserveClusters
  pub flags : StepsPreserveFlags
  pub count : StepsPreserveCount
