use Rattle.canonical_form.proofs.Ordering.OrderLemmas.{canonical_unique, Swaps-in_order, IsOrdered-in_order}
use Rattle.canonical_form.proofs.laws.order_is_unique.Goals as goal

pub returns-clause-reached : goal.returns-clause-reached
returns-clause-reached g c = λ ccc xs. record { reached = Swaps-in_order ccc xs; ordered = IsOrdered-in_order ccc xs }

pub returns-clause-unique : goal.returns-clause-unique
returns-clause-unique g c = canonical_unique
