use Rattle.std.proofs.Common.{◌≡◌, None, length}
use Rattle.layout_matching.specs.Loops.{times}
use Rattle.layout_matching.specs.Skipping.{nth}
use Rattle.layout_positions.specs.Flagged.{IsFlagged}
use Rattle.layout_positions.specs.Known.{AreOut}
use Rattle.layout_positions.specs.Subtables.{Trial, trial_step}
use Rattle.layout_positions.proofs.known.apply_known.Given as goal

-- the subtables so far have been tried, and the glyph is the same
abbrev pub invariant-loop-k : goal.invariant-loop-k
invariant-loop-k l =
    let placed = l.tried.placed in
    let here : Trial = record { buffer = l.buffer; next = placed.next; seen = placed.carried.seen; left = placed.carried.left; subtable = l.k } in
    let first : Trial = record { buffer = l.fn.buffer; next = None; seen = l.fn.carried.seen; left = l.fn.carried.left; subtable = 0 } in
    record {
      made : here ≡ times (trial_step l.lookup l.i) l.k first;
      len : length l.buffer.items ≡ length l.fn.buffer.items;
      glyph : (nth l.buffer.items l.i).glyph_id ≡ l.glyph;
      out : AreOut l.lookup l.glyph l.tried.out;
      flagged : IsFlagged l.tried.flagged l.buffer.items;
    }
