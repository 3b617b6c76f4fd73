use Rattle.std.proofs.Common.{ap, ◌∙◌, arith, lit<}
use Rattle.shape_items.specs.Properties.{Properties}
use Rattle.shape_items.specs.Words.{properties_of}
use Rattle.shape_items.proofs.PropertyLemmas.{first_kept, first_put}
use Rattle.shape_items.proofs.properties.ItemProperties.set_modified_ccc.Goals as goal

pub invariant_of-self : goal.invariant_of-self
invariant_of-self c =
    rw c.put_byte-self-inside.ensures
    (first_kept 1 c.args.modified_ccc c.self.inside.first c.self.inside.lower c.self.inside.upper (lit< tt) (lit< tt) (omega arith) c.self.invariant)

pub returns : goal.returns
unfolding properties_of
returns c =
    let first = c.self.inside.first in
    let lower = c.self.inside.lower in
    let upper = c.self.inside.upper in
    ap (λ w. properties_of w lower upper) c.put_byte-self-inside.ensures
    ∙ first_put 1 c.args.modified_ccc first lower upper (lit< tt) (omega arith)
    ∙ ap (λ (p : Properties). record p { modified_ccc = c.args.modified_ccc }) c.self.view_is
