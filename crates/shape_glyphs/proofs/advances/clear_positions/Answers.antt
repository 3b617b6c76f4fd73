use Rattle.std.proofs.Common.{◌≡◌, ◌∙◌, List, length, refl, ap, arith}
use Rattle.std.proofs.lemmas.Grind.{common_steps}
use Rattle.shape_items.specs.Buffer.{limit_of}
use Rattle.shape_common.specs.declared.positions.GlyphPosition.{GlyphPosition}
use Rattle.shape_buffer.specs.PositionWalks.{positions_mapped}
use Rattle.shape_glyphs.proofs.ClearingLemmas.{zeros_over, nothing_over}
use Rattle.shape_glyphs.proofs.advances.clear_positions.Goals as goal

pub returns-then-is_empty : goal.returns-then-is_empty
unfolding positions_mapped
returns-then-is_empty c =
    let b = c.args.buffer.now in
    let none : length b.positions ≡ 0 = grind (arith, common_steps) in
    record {
      made = ap (λ (ps : List GlyphPosition). record b { positions = ps }) (nothing_over b.items b.positions none);
      no_longer = omega arith;
      same_limit = refl;
    }

pub returns : goal.returns
unfolding positions_mapped
returns c =
    let b = c.args.buffer.now in
    let many : length b.positions ≡ length b.items = grind (arith, common_steps) in
    let made = c.clear_positions.ensures
    ∙ ap (λ (ps : List GlyphPosition). record b { positions = ps }) (zeros_over b.items b.positions many) in
    record { made = made; no_longer = grind (arith, common_steps); same_limit = ap limit_of made }
