use Rattle.std.proofs.Common.{◌≡◌, drop}
use Rattle.shape_font.specs.Subtables.{first_subtable}
use Rattle.shape_font.proofs.subtables.first_of.Given as goal

abbrev pub invariant-loop-key : goal.invariant-loop-key
invariant-loop-key l = first_subtable l.cmap (drop l.key-index l.keys) ≡ first_subtable l.cmap l.fn.keys
