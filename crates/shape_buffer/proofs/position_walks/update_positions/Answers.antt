use Rattle.std.proofs.Common.{arith}
use Rattle.std.proofs.lemmas.Grind.{common_steps}
use Rattle.shape_buffer.proofs.Loops.PositionWalkLemmas.{positions_over_more}
use Rattle.shape_buffer.specs.PositionWalks.{positions_mapped}
use Rattle.shape_buffer.proofs.position_walks.update_positions.Goals as goal

pub loop-i-preserved : goal.loop-i-preserved
loop-i-preserved g c = record {
  same_length = grind (arith, common_steps);
  as_many = c.loop-i.invariant.as_many;
  updated = λ f tells.
      let kept = c.loop-i.invariant.updated f tells in
      let changed = tells _ _ c.change-position.result c.change-position.ensures in
      grind (arith, positions_over_more f);
}

pub returns : goal.returns
unfolding positions_mapped
returns g c = λ f tells.
    let kept = c.loop-i.invariant.updated f tells in
    record { made = grind (arith, common_steps); no_longer = grind (arith, common_steps); same_limit = grind (arith, common_steps) }
