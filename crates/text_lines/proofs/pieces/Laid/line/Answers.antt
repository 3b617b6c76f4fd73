use Rattle.std.proofs.Common.{map, get_or, sym, ap, ◌∙◌}
use Rattle.bidi.specs.Lines.{visual_order, visual_places}
use Rattle.text_lines.specs.Pieces.{level_in, no_piece, shown_of}
use Rattle.text_lines.proofs.PartLemmas.{in_order-shown, levels_shown}
use Rattle.text_lines.proofs.pieces.Laid.line.Goals as goal

pub returns-clause-order : goal.returns-clause-order
returns-clause-order g c =
    let pieces = c.in_ok-pieces.pieces.items in
    record {
      parts = map shown_of pieces;
      follow = c.in_ok-pieces.ensures.parts;
      runs = c.in_ok-row.ensures.shown
          ∙ ap (λ ps. map (λ k. shown_of (get_or ps k no_piece)) (visual_order (map level_in ps))) c.deref.ensures.value
          ∙ in_order-shown pieces;
      logical = c.in_ok-row.ensures.logical
          ∙ ap (λ ps. visual_places (visual_order (map level_in ps))) c.deref.ensures.value
          ∙ ap (λ ls. visual_places (visual_order ls)) (sym (levels_shown pieces));
    }

pub returns-clause-levels : goal.returns-clause-levels
returns-clause-levels g c =
    let pieces = c.in_ok-pieces.pieces.items in
    record {
      base = c.base_at-level.ensures;
      parts = map shown_of pieces;
      follow = c.in_ok-pieces.ensures.parts;
      levels = c.in_ok-pieces.ensures.levels;
      runs = c.in_ok-row.ensures.shown
          ∙ ap (λ ps. map (λ k. shown_of (get_or ps k no_piece)) (visual_order (map level_in ps))) c.deref.ensures.value
          ∙ in_order-shown pieces;
    }
