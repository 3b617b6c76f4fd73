-- What preparing and masks preserve.
use Rattle.shape_buffer.specs.Preservation.{IsClusterPreserving, IsFlagPreserving, EachStep}
use Rattle.shape_buffer.specs.Layout.{HasNoDefinedFlag, LawfulMasks}
use Rattle.shape_common.specs.declared.text_types.Direction.{Direction}
use Rattle.shape_plan.specs.Preservation.{CallsPreserveClusters, RunPreservesFlags}
use Rattle.shape_plan.specs.Run.{Run}
use Rattle.shape_plan.specs.declared.decisions.Decisions.{Decisions}
use Rattle.shape_prepare.specs.MaskSteps.{mask_steps}
use Rattle.shape_prepare.specs.PrepareSteps.{prepare_steps}

-- the masks of a plan that preparing writes have no flag of glyphs
pub record WritesFeaturesAlone (run : Run) : Type 0 where
  pub global : HasNoDefinedFlag run.map.global_mask
  pub mirroring : HasNoDefinedFlag run.decisions.rtlm_mask

-- each step preserves flags, if the hooks do
abbrev pub PreparingPreservesFlags : Type 0
PreparingPreservesFlags =
    (run : Run) (target : Direction) → WritesFeaturesAlone run → RunPreservesFlags run → EachStep IsFlagPreserving (prepare_steps run target)

-- the masks of fractions are features: they have no bit of the glyphs' flags
pub record FractionsAreFeatures (decisions : Decisions) : Type 0 where
  pub frac : HasNoDefinedFlag decisions.frac_mask
  pub numr : HasNoDefinedFlag decisions.numr_mask
  pub dnom : HasNoDefinedFlag decisions.dnom_mask

-- each step of setting masks preserves clusters if the hook does
abbrev pub MasksPreserveClusters : Type 0
MasksPreserveClusters = (run : Run) → CallsPreserveClusters run → EachStep IsClusterPreserving (mask_steps run)

-- and flags if the hook does, and the masks of the plan and of its features are those of features
abbrev pub MasksPreserveFlags : Type 0
MasksPreserveFlags =
    (run : Run) → LawfulMasks run.map → FractionsAreFeatures run.decisions → RunPreservesFlags run → EachStep IsFlagPreserving (mask_steps run)
