use Rattle.std.proofs.Common.{◌≡◌, length, None}
use Rattle.shape_items.specs.Flags.{flagged_from}
use Rattle.shape_buffer.proofs.Loops.WalkOverLemmas.{with_rest}
use Rattle.shape_glyphs.proofs.FlagWalkLemmas.{walked}
use Rattle.shape_glyphs.proofs.flags.share_flags.Given as goal

-- what is left of the walk makes of the buffer what the whole walk does
abbrev pub invariant-loop-i : goal.invariant-loop-i
invariant-loop-i l = record {
  as_many : length l.buffer.items ≡ length l.fn.buffer.items;
  rest : with_rest (walked l.flags l.handed) l.i l.buffer ≡ with_rest (flagged_from l.flags None) 0 l.fn.buffer;
}
