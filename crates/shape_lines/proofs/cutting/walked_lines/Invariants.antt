use Rattle.std.proofs.Common.{◌≡◌, pos, vec_len, length}
use Rattle.shape_lines.specs.Walked.{HasWalked}
use Rattle.shape_lines.proofs.cutting.walked_lines.Given as goal

abbrev pub invariant-loop-place : goal.invariant-loop-place
invariant-loop-place l = record {
  sums : vec_len l.least ≡ length l.glyphs.items;
  walked : HasWalked l.glyphs l.text_end (pos l.width) l.place l.place l.walk;
}
