use Rattle.std.proofs.Common.{ap, ◌∙◌, arith, lit<}
use Rattle.bit_fields.specs.Fields.{number_of}
use Rattle.bit_fields.proofs.FieldLemmas.{is_set-number_of, number_of-below}
use Rattle.shape_items.specs.Properties.{Properties}
use Rattle.shape_items.specs.Words.{properties_of}
use Rattle.shape_items.proofs.PropertyLemmas.{lower_kept, lower_put}
use Rattle.shape_items.proofs.properties.ItemProperties.set_multiplied.Goals as goal

pub invariant_of-self : goal.invariant_of-self
invariant_of-self c =
    rw c.put_bit-self-inside.ensures
    (lower_kept 3 (number_of c.args.multiplied) c.self.inside.first c.self.inside.lower c.self.inside.upper (lit< tt) (λ e. absurd (omega arith)) (number_of-below c.args.multiplied) c.self.invariant)

pub returns : goal.returns
unfolding properties_of
returns c =
    let first = c.self.inside.first in
    let lower = c.self.inside.lower in
    let upper = c.self.inside.upper in
    ap (λ w. properties_of first w upper) c.put_bit-self-inside.ensures
    ∙ lower_put 3 (number_of c.args.multiplied) first lower upper (lit< tt) (number_of-below c.args.multiplied)
    ∙ ap (λ b. record (properties_of first lower upper) { multiplied = b }) (is_set-number_of c.args.multiplied)
    ∙ ap (λ (p : Properties). record p { multiplied = c.args.multiplied }) c.self.view_is
