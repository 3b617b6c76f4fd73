use Rattle.opentype_layout.proofs.NumberLemmas.{numbers_are}
use Rattle.opentype_layout.proofs.chosen.numbers.Goals as goal

pub returns : goal.returns
returns c = rw (c.number_at.ensures, c.number_at-2.ensures, c.number_at-3.ensures) (numbers_are c.args.tags.now c.requires)
