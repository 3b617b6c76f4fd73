use Rattle.std.proofs.Common.{◌≡◌, ◌<◌, ◌≤◌, ◌+◌, ◌-◌, length, drop}
use Rattle.std.specs.Prelude.{fold}
use Rattle.shape_fallback.specs.Bases.{bases_positioned, position_span, bases, marks_of, marks_from}
use Rattle.shape_fallback.proofs.ot_shape_fallback.bases.position_bases.Given as goal

-- the item before the place is the next that may be a base
abbrev pub invariant-loop-i : goal.invariant-loop-i
invariant-loop-i g l = record {
  after : 0 < l.i;
  as_many : length l.buffer.items ≡ length l.fn.buffer.items;
  same_limit : l.buffer.length_limit ≡ l.fn.buffer.length_limit;
  marks : l.done ≤ l.i - 1 + marks_from (l.i - 1) l.buffer;
  rest : fold (position_span (g.F.hb_font_t.face l.face) l.frame) l.buffer (bases (l.i - 1) (drop (l.i - 1) (marks_of l.buffer)))
      ≡ bases_positioned (g.F.hb_font_t.face l.face) l.frame l.fn.buffer;
}
