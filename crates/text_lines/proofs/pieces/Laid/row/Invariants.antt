use Rattle.std.proofs.Common.{◌≡◌, map, take, get_or, pos}
use Rattle.bidi.specs.Lines.{visual_order as order_of, visual_places as places_of}
use Rattle.text_lines.specs.Lines.{Follow, run_shown}
use Rattle.text_lines.specs.Pieces.{level_in, no_piece, shown_of}
use Rattle.text_lines.proofs.pieces.Laid.row.Given as goal

abbrev pub invariant-loop-place : goal.invariant-loop-place
invariant-loop-place g l = record {
  shown : map run_shown l.row.runs.items ≡ map (λ k. shown_of (get_or l.pieces k no_piece)) (take l.place l.order.items);
  logical : l.row.logical.items ≡ places_of (order_of (map level_in l.pieces));
  follow : Follow (pos 0) l.row.end l.row.runs.items;
}
