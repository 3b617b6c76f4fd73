use Rattle.std.proofs.Common.{◌≡◌, drop, fold, Option, ℕ}
use Rattle.layout_map.specs.Stages.{Staged, no_stages, with_stage}
use Rattle.layout_map.proofs.stages.Stages.collect.Given as goal

abbrev pub invariant-loop-pause : goal.invariant-loop-pause
invariant-loop-pause l =
    let step : Staged → Option ℕ → Staged = with_stage l.gsub l.features l.required_stage in
    fold step l.stages (drop l.pause-index l.pauses) ≡ fold step no_stages l.pauses
