use Rattle.std.proofs.Common.{◌≡◌, ◌≤◌, ◌+◌, ◌*◌}
use Rattle.glyph_variations.specs.Glyph.{stored}
use Rattle.glyph_variations.specs.Sums as sums
use Rattle.glyph_variations.specs.Times.{times}
use Rattle.glyph_variations.proofs.sums.walked.Given as goal

abbrev pub invariant-loop-i : goal.invariant-loop-i
invariant-loop-i l = record {
  walked : l.walk ≡ times (sums.tuple_step (stored l.glyph) l.target) l._i (sums.begun_at (stored l.glyph) l.position);
  header : l.walk.header ≤ 4 + 524288 * l._i;
  place : l.walk.place ≤ 262144 + 65535 * l._i;
}
