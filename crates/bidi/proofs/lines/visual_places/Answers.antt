use Rattle.std.proofs.Common.{subst, sym}
use Rattle.bidi.specs.Lines.{AreInverse}
use Rattle.bidi.proofs.InverseLemmas.{order_inverse}
use Rattle.bidi.proofs.lines.visual_places.Goals as goal

pub returns-clause-inverse : goal.returns-clause-inverse
returns-clause-inverse c = λ levels moved. subst (AreInverse c.args.order.now) (sym c.in_ok-places.ensures) (order_inverse levels c.args.order.now moved)
