use Rattle.std.proofs.Common.{◌≡◌, ◌++◌, map, take}
use Rattle.line_carets.specs.LineCarets.{moved}
use Rattle.line_carets.proofs.add_moved.Given as goal

abbrev pub invariant-loop-place : goal.invariant-loop-place
invariant-loop-place l = l.all.items ≡ l.fn.all.items ++ map (moved l.x) (take l.place l.carets)
