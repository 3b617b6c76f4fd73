use Rattle.std.proofs.Common.{◌≡◌, drop, fold}
use Rattle.layout_positions.specs.Ways.{pen_on}
use Rattle.layout_positions.proofs.ways.pen_over.Given as goal

-- the way over the glyphs from here on is what is left of the whole
abbrev pub invariant-loop-there : goal.invariant-loop-there
invariant-loop-there l = fold pen_on l.pen (drop l.there-index l.positions) ≡ fold pen_on l.fn.pen l.fn.positions
