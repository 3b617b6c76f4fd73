use Rattle.std.proofs.Common.{max, ap, ◌∙◌}
use Rattle.layout_positions.proofs.TollLemmas.{plain_walk}
use Rattle.layout_positions.proofs.tolls.plain_toll.Goals as goal

pub returns : goal.returns
returns c =
    plain_walk c.args.lookup.now c.args.count c.max-parts.result c.saturating_mul.result c.requires.positions c.requires.plain
    (c.max-parts.ensures ∙ ap (λ n. max n 1) c.subtable_count.ensures.value) c.saturating_mul.ensures
