use Rattle.std.proofs.Common.{◌≡◌, ◌++◌, drop}
use Rattle.arabic_stretching.specs.Stretching.{glyphs_from}
use Rattle.arabic_stretching.proofs.stretching.glyphs_of.Given as goal

abbrev pub invariant-loop-i : goal.invariant-loop-i
invariant-loop-i l = record {
  left : l.out.items ++ glyphs_from (drop l.i l.buffer.items) (drop l.i l.buffer.positions)
      ≡ glyphs_from l.buffer.items l.buffer.positions;
}
