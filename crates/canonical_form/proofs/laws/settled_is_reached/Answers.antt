use Rattle.std.proofs.Common.{◌<◌, []}
use Rattle.std.proofs.lemmas.List.Elements.{All-nil}
use Rattle.canonical_form.proofs.Ordering.RunLemmas.{AreRunsSettled-swaps, AreRunsSettled-ordered, AreRunsSettled-unique}
use Rattle.canonical_form.proofs.laws.settled_is_reached.Goals as goal

pub returns-clause-reached : goal.returns-clause-reached
returns-clause-reached g c = λ ccc limit old new settled. AreRunsSettled-swaps ccc limit [] old new settled

pub returns-clause-ordered : goal.returns-clause-ordered
returns-clause-ordered g c =
    λ ccc limit old new fits settled. AreRunsSettled-ordered ccc limit [] old new (All-nil (λ x. 0 < ccc x)) fits settled

pub returns-clause-unique : goal.returns-clause-unique
returns-clause-unique g c = λ ccc limit old new other. AreRunsSettled-unique ccc limit [] old new other
