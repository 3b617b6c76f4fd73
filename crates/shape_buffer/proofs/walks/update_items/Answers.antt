use Rattle.std.proofs.Common.{arith, refl}
use Rattle.std.proofs.lemmas.Grind.{common_steps}
use Rattle.std.proofs.lemmas.List.Edits.{map_over_more}
use Rattle.shape_buffer.specs.Walks.{items_mapped}
use Rattle.shape_buffer.proofs.walks.update_items.Goals as goal

pub loop-i-preserved : goal.loop-i-preserved
loop-i-preserved g c = record {
  same_length = grind (arith, common_steps);
  updated = λ f tells.
      let kept = c.loop-i.invariant.updated f tells in
      let changed = tells _ c.change-item.result (record { shown = _; shows = refl; says = record { met = c.change-item.ensures } }) in
      grind (arith, common_steps, map_over_more f);
}

pub returns : goal.returns
unfolding items_mapped
returns g c = λ f tells.
    let kept = c.loop-i.invariant.updated f tells in
    record { made = grind (arith, common_steps); no_longer = grind (arith, common_steps); same_limit = grind (arith, common_steps) }
