use Rattle.layout_context.proofs.LabelLemmas.{labels-grow, labels-shrink}
use Rattle.layout_context.proofs.laws.places_are_those_of_labels.Goals as goal

pub returns-clause-more : goal.returns-clause-more
returns-clause-more c = labels-grow

pub returns-clause-fewer : goal.returns-clause-fewer
returns-clause-fewer c = labels-shrink
