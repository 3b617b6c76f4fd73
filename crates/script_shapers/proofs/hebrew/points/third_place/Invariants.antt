use Rattle.std.proofs.Common.{◌≡◌, drop}
use Rattle.script_shapers.specs.HebrewPoints.{third_place}
use Rattle.script_shapers.proofs.hebrew.points.third_place.Given as goal

abbrev pub invariant-loop-place : goal.invariant-loop-place
invariant-loop-place l = record { rest : third_place l.first l.second l.place (drop l.place l.run) ≡ third_place 0 0 0 l.run }
