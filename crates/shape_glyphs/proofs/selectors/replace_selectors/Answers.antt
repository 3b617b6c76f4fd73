use Rattle.std.proofs.Common.{arith}
use Rattle.std.proofs.lemmas.Grind.{common_steps}
use Rattle.std.proofs.lemmas.List.Edits.{map_over_more}
use Rattle.shape_buffer.proofs.Loops.PositionWalkLemmas.{positions_over_more}
use Rattle.shape_glyphs.specs.Selectors.{not_found_item, not_found_position}
use Rattle.shape_glyphs.proofs.selectors.replace_selectors.Goals as goal

pub loop-i-preserved : goal.loop-i-preserved
loop-i-preserved c = record {
  same_length = grind (arith, common_steps);
  as_many = c.loop-i.invariant.as_many;
  updated = grind (arith, common_steps, map_over_more (not_found_item c.args.glyph), positions_over_more not_found_position);
}
