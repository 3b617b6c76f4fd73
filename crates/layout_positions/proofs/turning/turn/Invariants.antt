use Rattle.std.proofs.Common.{◌≡◌, ◌<◌, length}
use Rattle.layout_matching.specs.Loops.{times}
use Rattle.layout_positions.specs.Turning.{Turn, turn_step, first_turn}
use Rattle.layout_positions.proofs.turning.turn.Given as goal

-- so many links are turned
abbrev pub invariant-loop-i : goal.invariant-loop-i
invariant-loop-i l =
    let here : Turn = record { buffer = l.buffer; at = l.at; was = l.was; links = l.i } in
    record {
      made : here ≡ times (turn_step l.end) l.i (first_turn l.child l.fn.buffer);
      inside : l.at < length l.buffer.items;
      items : l.buffer.items ≡ l.fn.buffer.items;
    }
