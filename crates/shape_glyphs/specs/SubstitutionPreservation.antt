-- What making glyphs and substitution preserve: clusters and the flags of glyphs.
use Rattle.shape_items.specs.Buffer.{Buffer}
use Rattle.shape_buffer.specs.Preservation.{IsClusterPreserving, IsFlagPreserving, EachStep}
use Rattle.shape_plan.specs.Preservation.{CallsPreserveClusters, RunPreservesFlags}
use Rattle.shape_plan.specs.Run.{Run}
use Rattle.shape_glyphs.specs.Substitution.{glyph_steps, substitute_steps}

-- a property of each step of making glyphs, and of substituting them
pub record EachSubstitutionStep (Preserves : (Buffer → Buffer) → Type 0) (run : Run) : Type 0 where
  pub glyphs : EachStep Preserves (glyph_steps run)
  pub lookups : EachStep Preserves (substitute_steps run)

-- they preserve clusters if the lookups and the hooks do
abbrev pub SubstitutionPreservesClusters : Type 0
SubstitutionPreservesClusters = (run : Run) → CallsPreserveClusters run → EachSubstitutionStep IsClusterPreserving run

-- and flags if these preserve flags
abbrev pub SubstitutionPreservesFlags : Type 0
SubstitutionPreservesFlags = (run : Run) → RunPreservesFlags run → EachSubstitutionStep IsFlagPreserving run
