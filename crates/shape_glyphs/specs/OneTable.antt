-- GPOS and kerx never both run: said of the very steps that position by tables.
use Rattle.std.specs.Prelude.{◌≡◌, ◌⊎◌, ℕ, true, false, Contains}
use Rattle.shape_items.specs.Buffer.{Buffer}
use Rattle.shape_buffer.specs.Outcome.{step}
use Rattle.shape_plan.specs.Decisions.{runs_gpos, runs_kerx}
use Rattle.shape_plan.specs.Run.{Run}
use Rattle.shape_glyphs.specs.Steps.{advance_steps, table_steps, finish_steps}

-- the run over another GPOS
abbrev pub with_gpos : (Buffer → Buffer) → Run → Run
with_gpos gpos run = record run { lookups = record run.lookups { position = gpos } }

-- the run over another kerx
abbrev pub with_kerx : (ℕ → Buffer → Buffer) → Run → Run
with_kerx kerx run = record run { lookups = record run.lookups { aat_position = kerx } }

-- two runs have the same steps, from positions to flags
pub record HasSameSteps (other run : Run) : Type 0 where
  pub advances : advance_steps other ≡ advance_steps run
  pub tables : table_steps other ≡ table_steps run
  pub finish : finish_steps other ≡ finish_steps run

-- GPOS does not run: the steps are the same whatever it does
abbrev pub RunsWithoutGpos : Run → Type 0
RunsWithoutGpos run = (gpos : Buffer → Buffer) → HasSameSteps (with_gpos gpos run) run

-- kerx does not run
abbrev pub RunsWithoutKerx : Run → Type 0
RunsWithoutKerx run = (kerx : ℕ → Buffer → Buffer) → HasSameSteps (with_kerx kerx run) run

-- the table that the decisions say is among the steps, and no other one is; so the two never both run
pub record RunsOneTable (run : Run) : Type 0 where
  pub gpos : runs_gpos run.decisions ≡ true → Contains (table_steps run) (step run.lookups.position)
  pub kerx : runs_kerx run.decisions ≡ true → Contains (table_steps run) (step (run.lookups.aat_position run.decisions.kern_mask))
  pub no_gpos : runs_gpos run.decisions ≡ false → RunsWithoutGpos run
  pub no_kerx : runs_kerx run.decisions ≡ false → RunsWithoutKerx run
  pub never_both : RunsWithoutGpos run ⊎ RunsWithoutKerx run

abbrev pub EachRunsOneTable : Type 0
EachRunsOneTable = (run : Run) → RunsOneTable run
