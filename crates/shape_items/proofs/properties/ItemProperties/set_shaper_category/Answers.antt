use Rattle.std.proofs.Common.{ap, ◌∙◌, arith, lit<}
use Rattle.shape_items.specs.Properties.{Properties}
use Rattle.shape_items.specs.Words.{properties_of}
use Rattle.shape_items.proofs.PropertyLemmas.{upper_kept, upper_put}
use Rattle.shape_items.proofs.properties.ItemProperties.set_shaper_category.Goals as goal

pub invariant_of-self : goal.invariant_of-self
invariant_of-self c =
    rw c.put_byte-self-inside.ensures
    (upper_kept 2 c.args.shaper_category c.self.inside.first c.self.inside.lower c.self.inside.upper (lit< tt) (omega arith) c.self.invariant)

pub returns : goal.returns
unfolding properties_of
returns c =
    let first = c.self.inside.first in
    let lower = c.self.inside.lower in
    let upper = c.self.inside.upper in
    ap (λ w. properties_of first lower w) c.put_byte-self-inside.ensures
    ∙ upper_put 2 c.args.shaper_category first lower upper (lit< tt) (omega arith)
    ∙ ap (λ (p : Properties). record p { shaper_category = c.args.shaper_category }) c.self.view_is
