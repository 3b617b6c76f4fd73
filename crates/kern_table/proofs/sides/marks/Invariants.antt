use Rattle.std.proofs.Common.{◌≡◌, length}
use Rattle.kern_table.specs.Sides.{AreMarked}
use Rattle.kern_table.proofs.sides.marks.Given as goal

-- the glyphs of the first pairs are marked
abbrev pub invariant-loop-i : goal.invariant-loop-i
invariant-loop-i l = record {
  so_far : AreMarked l.subtable.kern.now l.subtable.start l.at_left l.i l.marks.items;
  few : length l.marks.items ≡ l.glyph_count;
}
