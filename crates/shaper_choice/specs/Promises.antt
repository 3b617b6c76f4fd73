-- What is promised of a call that chooses among runs, in one record that names the run once: so each choice hands all of
-- it on.
use Rattle.std.specs.Prelude.{◌≡◌, Result, IfOk, IfErr}
use Rattle.shape_items.specs.Buffer.{Buffer, cleared}
use Rattle.shape_buffer.specs.declared.buffer.error.ShapeError.TheVariants.{Length}
use Rattle.shape_buffer.specs.declared.buffer.error.ShapeFault.{ShapeFault}
use Rattle.shape_common.specs.Unicode.{UnicodeMeaning}
use Rattle.shape_plan.specs.Run.{Run}
use Rattle.shape_pipeline.specs.GlyphsOf.{AreGlyphsOf, TextPasses}

-- the clauses of `shape`, by their names, of a run by these Unicode functions, a text and what was returned
pub record IsShapedBy (functions : UnicodeMeaning) (run : Run) (text : Buffer) (result : Result Buffer ShapeFault) : Type 0 where
  pub unicode : run.unicode ≡ functions
  pub ok : IfOk result (AreGlyphsOf run text)
  pub length : IfErr result (λ fault. fault.cause ≡ Length → TextPasses run text)
  pub cleared : IfErr result (λ fault. fault.buffer ≡ cleared text)
