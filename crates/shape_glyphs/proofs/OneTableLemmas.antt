-- Which of GPOS and kerx is among the steps that position by tables.
use Rattle.std.proofs.Common.{rules, ◌≡◌, ◌⊎◌, Bool, true, false, not, ◌&&◌, if◌then◌else◌, refl, inl, inr}
use Rattle.std.proofs.Common.{List, [], ◌∷◌, ◌++◌}
use Rattle.std.proofs.lemmas.Bool.{cases_Bool}
use Rattle.std.specs.Prelude.{Contains}
use Rattle.shape_items.specs.Buffer.{Buffer}
use Rattle.shape_buffer.specs.Outcome.{Step, step}
use Rattle.shape_plan.specs.Decisions.{runs_gpos, runs_kerx}
use Rattle.shape_plan.specs.Run.{Run, step_if}
use Rattle.shape_glyphs.specs.OneTable.{RunsWithoutGpos, RunsWithoutKerx, EachRunsOneTable}
use Rattle.shape_glyphs.specs.Steps.{close_steps}
use Rattle.shape_glyphs.specs.Tables.{kerned, tracked}
use Rattle.shape_glyphs.specs.Zeroing.{zeroed_early, zeroed_late}

-- the steps with this one in the place of the tables
abbrev placed_by : Run → (Buffer → Buffer) → List Step
placed_by run table =
    (step run.lookups.position_start
    ∷ step (zeroed_early run)
    ∷ step table
    ∷ step (kerned run.lookups run.decisions)
    ∷ step (tracked run.lookups run.decisions)
    ∷ step (zeroed_late run)
    ∷ []) ++ close_steps run

-- which of two tables positions, by whether the first and the second are applied
abbrev chosen : Bool → Bool → (Buffer → Buffer) → (Buffer → Buffer) → Buffer → Buffer
chosen first second by_first by_second = if first then by_first else step_if second by_second

-- what kerx does in a run
abbrev kerx_of : Run → Buffer → Buffer
kerx_of run = run.lookups.aat_position run.decisions.kern_mask

in_place : (run : Run) (table : Buffer → Buffer) → Contains (placed_by run table) (step table)
in_place run table = (2, Prim.search rules, refl)

contains_first : (first second : Bool) (run : Run) (f g : Buffer → Buffer) → first ≡ true
    → Contains (placed_by run (chosen first second f g)) (step f)
contains_first true second run f g is = in_place run f
contains_first false second run f g is = absurd (Prim.search rules)

contains_second : (first second : Bool) (run : Run) (f g : Buffer → Buffer) → (not first && second) ≡ true
    → Contains (placed_by run (chosen first second f g)) (step g)
contains_second false true run f g is = in_place run g
contains_second false false run f g is = absurd (Prim.search rules)
contains_second true second run f g is = absurd (Prim.search rules)

without_first : (first second : Bool) (run : Run) (other f g : Buffer → Buffer) → first ≡ false
    → placed_by run (chosen first second other g) ≡ placed_by run (chosen first second f g)
without_first false second run other f g isnt = refl
without_first true second run other f g isnt = absurd (Prim.search rules)

without_second : (first second : Bool) (run : Run) (other f g : Buffer → Buffer) → (not first && second) ≡ false
    → placed_by run (chosen first second f other) ≡ placed_by run (chosen first second f g)
without_second true second run other f g isnt = refl
without_second false false run other f g isnt = refl
without_second false true run other f g isnt = absurd (Prim.search rules)

no_gpos-runs : (run : Run) → runs_gpos run.decisions ≡ false → RunsWithoutGpos run
no_gpos-runs run isnt gpos = record {
  advances = refl;
  tables = without_first run.decisions.apply_gpos run.decisions.apply_kerx run gpos run.lookups.position (kerx_of run) isnt;
  finish = refl;
}

no_kerx-runs : (run : Run) → runs_kerx run.decisions ≡ false → RunsWithoutKerx run
no_kerx-runs run isnt kerx =
    let other = kerx run.decisions.kern_mask in record {
      advances = refl;
      tables = without_second run.decisions.apply_gpos run.decisions.apply_kerx run other run.lookups.position (kerx_of run) isnt;
      finish = refl;
    }

-- if GPOS runs kerx does not
second_waits : (first second : Bool) → first ≡ true → (not first && second) ≡ false
second_waits true second is = refl
second_waits false second is = absurd (Prim.search rules)

never_both-runs : (run : Run) → RunsWithoutGpos run ⊎ RunsWithoutKerx run
never_both-runs run = elim (cases_Bool (runs_gpos run.decisions)) [
  | inl is ↦ inr (no_kerx-runs run (second_waits run.decisions.apply_gpos run.decisions.apply_kerx is))
  | inr isnt ↦ inl (no_gpos-runs run isnt)
]

pub each_runs_one_table : EachRunsOneTable
each_runs_one_table run = record {
  gpos = λ is. contains_first run.decisions.apply_gpos run.decisions.apply_kerx run run.lookups.position (kerx_of run) is;
  kerx = λ is. contains_second run.decisions.apply_gpos run.decisions.apply_kerx run run.lookups.position (kerx_of run) is;
  no_gpos = no_gpos-runs run;
  no_kerx = no_kerx-runs run;
  never_both = never_both-runs run;
}
