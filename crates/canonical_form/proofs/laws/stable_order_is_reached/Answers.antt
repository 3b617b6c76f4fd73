use Rattle.canonical_form.proofs.Ordering.SortLemmas.{IsPutInOrder-from_sort}
use Rattle.canonical_form.proofs.laws.stable_order_is_reached.Goals as goal

pub returns : goal.returns
returns g c = IsPutInOrder-from_sort
