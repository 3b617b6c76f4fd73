use Rattle.std.proofs.Common.{◌≡◌, drop}
use Rattle.bidi.specs.Lines.{placed_from, visual_places}
use Rattle.bidi.proofs.lines.placed.Given as goal

abbrev pub invariant-loop-i : goal.invariant-loop-i
invariant-loop-i l = placed_from l.i (drop l.i l.order) l.places.items ≡ visual_places l.order
