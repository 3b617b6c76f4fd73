use Rattle.std.proofs.Common.{◌≡◌, ◌++◌, drop}
use Rattle.line_carets.specs.LineCarets.{all_carets}
use Rattle.line_carets.proofs.line_carets.Given as goal

abbrev pub invariant-loop-place : goal.invariant-loop-place
invariant-loop-place l =
    l.all.items ++ all_carets l.stops l.line.runs.items (drop l.place l.line.logical.items)
    ≡ all_carets l.stops l.line.runs.items l.line.logical.items
