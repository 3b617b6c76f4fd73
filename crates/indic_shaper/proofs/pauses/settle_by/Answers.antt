use Rattle.std.proofs.Common.{ap, ◌∙◌}
use Rattle.indic_shaper.specs.Pauses.{settled_by}
use Rattle.indic_shaper.specs.Settling.Syllables.{all_settled}
use Rattle.indic_shaper.specs.declared.engine.Facts.{Facts}
use Rattle.indic_shaper.proofs.pauses.settle_by.Goals as goal

pub returns : goal.returns
unfolding settled_by
returns g c = record {
  made = c.settle_all.ensures.made ∙ ap (λ (facts : Facts). all_settled facts c.args.buffer.now) c.facts_of-facts.ensures;
  no_longer = c.settle_all.ensures.no_longer;
  same_limit = c.settle_all.ensures.same_limit;
}
