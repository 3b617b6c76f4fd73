use Rattle.std.proofs.Common.{ap, ◌∙◌, arith, lit<}
use Rattle.shape_items.specs.Properties.{Properties}
use Rattle.shape_items.specs.Words.{properties_of}
use Rattle.shape_items.proofs.PropertyLemmas.{lower_kept, lower_put}
use Rattle.shape_items.proofs.properties.ItemProperties.set_ligature_id.Goals as goal

pub invariant_of-self : goal.invariant_of-self
invariant_of-self c =
    rw c.put_byte-self-inside.ensures
    (lower_kept 6 c.args.ligature_id c.self.inside.first c.self.inside.lower c.self.inside.upper (lit< tt) (λ e. absurd (omega arith)) (omega arith) c.self.invariant)

pub returns : goal.returns
unfolding properties_of
returns c =
    let first = c.self.inside.first in
    let lower = c.self.inside.lower in
    let upper = c.self.inside.upper in
    ap (λ w. properties_of first w upper) c.put_byte-self-inside.ensures
    ∙ lower_put 6 c.args.ligature_id first lower upper (lit< tt) (omega arith)
    ∙ ap (λ (p : Properties). record p { ligature_id = c.args.ligature_id }) c.self.view_is
