use Rattle.std.proofs.Common.{ap, ap₂, ◌∙◌}
use Rattle.shape_items.specs.Buffer.{Buffer}
use Rattle.indic_shaper.specs.Settling.Syllables.{beginning_marked, moved, settled}
use Rattle.indic_shaper.specs.declared.settling.base.Spot.{Spot}
use Rattle.indic_shaper.proofs.settling.settle.Goals as goal

pub returns-clause-made : goal.returns-clause-made
unfolding settled
returns-clause-made c =
    let facts = c.args.facts.now in
    c.mark_beginning.ensures.made
    ∙ ap (beginning_marked facts.masks.init c.args.start)
    (c.move_all.ensures.made
    ∙ ap₂ (λ (b : Buffer) (spot : Spot). moved facts c.args.start c.args.end b spot)
    c.find_base-spot.ensures.made c.find_base-spot.ensures.value)
