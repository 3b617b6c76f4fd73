use Rattle.std.proofs.Common.{◌≡◌}
use Rattle.bitmap_tables.specs.Strikes.{largest}
use Rattle.bitmap_tables.specs.Cblc.{pixels_of}
use Rattle.bitmap_tables.proofs.cblc.largest_strike.Given as goal

-- the largest of those before
abbrev pub invariant-loop-i : goal.invariant-loop-i
invariant-loop-i l = l.best ≡ largest (pixels_of l.cblc) l.i
