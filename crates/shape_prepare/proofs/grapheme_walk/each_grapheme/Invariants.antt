use Rattle.std.proofs.Common.{◌≡◌, ◌≤◌, length}
use Rattle.shape_prepare.specs.GraphemeWalk.{changed}
use Rattle.shape_prepare.proofs.Spans.WalkedLemmas.{Walked}
use Rattle.shape_prepare.proofs.grapheme_walk.each_grapheme.Given as goal

abbrev pub invariant-loop-last : goal.invariant-loop-last
invariant-loop-last l = record {
  walked : Walked (changed l.fn.change) l.fn.buffer l.start l.last l.buffer;
  as_many : length l.buffer.items ≡ length l.fn.buffer.items;
  ordered : l.start ≤ l.last;
}
