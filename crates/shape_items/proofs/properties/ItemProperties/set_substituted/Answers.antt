use Rattle.std.proofs.Common.{ap, ◌∙◌, arith, lit<}
use Rattle.bit_fields.specs.Fields.{number_of}
use Rattle.bit_fields.proofs.FieldLemmas.{is_set-number_of, number_of-below}
use Rattle.shape_items.specs.Properties.{Properties}
use Rattle.shape_items.specs.Words.{properties_of}
use Rattle.shape_items.proofs.PropertyLemmas.{lower_kept, lower_put}
use Rattle.shape_items.proofs.properties.ItemProperties.set_substituted.Goals as goal

pub invariant_of-self : goal.invariant_of-self
invariant_of-self c =
    rw c.put_bit-self-inside.ensures
    (lower_kept 1 (number_of c.args.substituted) c.self.inside.first c.self.inside.lower c.self.inside.upper (lit< tt) (λ e. absurd (omega arith)) (number_of-below c.args.substituted) c.self.invariant)

pub returns : goal.returns
unfolding properties_of
returns c =
    let first = c.self.inside.first in
    let lower = c.self.inside.lower in
    let upper = c.self.inside.upper in
    ap (λ w. properties_of first w upper) c.put_bit-self-inside.ensures
    ∙ lower_put 1 (number_of c.args.substituted) first lower upper (lit< tt) (number_of-below c.args.substituted)
    ∙ ap (λ b. record (properties_of first lower upper) { substituted = b }) (is_set-number_of c.args.substituted)
    ∙ ap (λ (p : Properties). record p { substituted = c.args.substituted }) c.self.view_is
