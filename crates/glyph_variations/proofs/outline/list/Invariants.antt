use Rattle.std.proofs.Common.{◌≡◌, ◌≤◌, ◌+◌, ◌*◌, length}
use Rattle.glyph_variations.specs.Outline as outline
use Rattle.glyph_variations.specs.Times.{times}
use Rattle.glyph_variations.proofs.outline.list.Given as goal

abbrev pub invariant-loop-i : goal.invariant-loop-i
invariant-loop-i l = record {
  read : outline.listing l.numbers l.deltas l.listed
      ≡ times (outline.list_step l.bytes l.scalar) l._i (outline.listing_begun l.points l.at (length l.initial.listed));
  same : length l.listed ≡ length l.initial.listed;
  numbers : l.numbers.at ≤ l.points.at + 3 * l._i;
  small : l.numbers.number ≤ 65536 * l._i;
  deltas : l.deltas.at ≤ l.at + 5 * l._i;
}
