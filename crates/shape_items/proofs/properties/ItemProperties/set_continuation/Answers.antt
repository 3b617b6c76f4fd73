use Rattle.std.proofs.Common.{ap, ◌∙◌, lit<}
use Rattle.bit_fields.specs.Fields.{number_of}
use Rattle.bit_fields.proofs.FieldLemmas.{is_set-number_of, number_of-below}
use Rattle.shape_items.specs.Properties.{Properties}
use Rattle.shape_items.specs.Words.{properties_of}
use Rattle.shape_items.proofs.PropertyLemmas.{first_kept, first_put}
use Rattle.shape_items.proofs.properties.ItemProperties.set_continuation.Goals as goal

pub invariant_of-self : goal.invariant_of-self
invariant_of-self c =
    rw c.put_bit-self-inside.ensures
    (first_kept 5 (number_of c.args.continuation) c.self.inside.first c.self.inside.lower c.self.inside.upper (lit< tt) (lit< tt) (number_of-below c.args.continuation) c.self.invariant)

pub returns : goal.returns
unfolding properties_of
returns c =
    let first = c.self.inside.first in
    let lower = c.self.inside.lower in
    let upper = c.self.inside.upper in
    ap (λ w. properties_of w lower upper) c.put_bit-self-inside.ensures
    ∙ first_put 5 (number_of c.args.continuation) first lower upper (lit< tt) (number_of-below c.args.continuation)
    ∙ ap (λ b. record (properties_of first lower upper) { continuation = b }) (is_set-number_of c.args.continuation)
    ∙ ap (λ (p : Properties). record p { continuation = c.args.continuation }) c.self.view_is
