use Rattle.std.proofs.Common.{◌≡◌}
use Rattle.bitmap_tables.specs.Strikes.{largest}
use Rattle.bitmap_tables.specs.Sbix.{ppem_of}
use Rattle.bitmap_tables.proofs.sbix.largest_strike.Given as goal

-- the largest of those before
abbrev pub invariant-loop-i : goal.invariant-loop-i
invariant-loop-i l = l.best ≡ largest (ppem_of l.sbix l.glyphs) l.i
