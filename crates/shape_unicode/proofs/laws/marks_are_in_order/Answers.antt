use Rattle.shape_unicode.proofs.OrderLemmas.{marks_are_in_order}
use Rattle.shape_unicode.proofs.laws.marks_are_in_order.Goals as goal

pub returns : goal.returns
returns c = marks_are_in_order
