use Rattle.std.proofs.Common.{◌≡◌, drop, reverse}
use Rattle.shape_lines.specs.Pieces.{pieces_of, AreNarrow}
use Rattle.shape_lines.specs.Walked.{least, leasts}
use Rattle.shape_lines.proofs.cutting.least_widths.Given as goal

abbrev pub invariant-loop-place : goal.invariant-loop-place
invariant-loop-place l = record {
  on_is : l.on ≡ least (drop l.place (pieces_of l.glyphs));
  widths_are : l.widths.items ≡ reverse (leasts (drop l.place (pieces_of l.glyphs)));
  narrow : AreNarrow (drop l.place (pieces_of l.glyphs));
}
