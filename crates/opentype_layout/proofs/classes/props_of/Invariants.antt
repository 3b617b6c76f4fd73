use Rattle.std.proofs.Common.{◌≡◌, length}
use Rattle.opentype_layout.specs.Classes.{AreProps}
use Rattle.opentype_layout.proofs.classes.props_of.Given as goal

abbrev pub invariant-loop-glyph : goal.invariant-loop-glyph
invariant-loop-glyph l = record {
  so_far : length l.props.items ≡ l.glyph;
  ok : AreProps l.gdef l.props.items;
}
