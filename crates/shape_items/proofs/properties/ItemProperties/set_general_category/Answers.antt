use Rattle.std.proofs.Common.{ap, ◌∙◌, lit<}
use Rattle.bit_fields.specs.Fields.{with_field}
use Rattle.shape_common.specs.CategoryNumber.{category_number}
use Rattle.shape_items.specs.Properties.{Properties}
use Rattle.shape_items.specs.Words.{properties_of}
use Rattle.shape_items.proofs.PropertyLemmas.{category_kept, first_put, category_number-below, category_of-number}
use Rattle.shape_items.proofs.properties.ItemProperties.set_general_category.Goals as goal

pub invariant_of-self : goal.invariant_of-self
invariant_of-self c =
    rw (c.put_byte-self-inside.ensures ∙ ap (λ v. with_field 0 8 v c.self.inside.first) c.number.ensures)
    (category_kept c.args.general_category c.self.inside.first c.self.inside.lower c.self.inside.upper c.self.invariant)

pub returns : goal.returns
unfolding properties_of
returns c =
    let first = c.self.inside.first in
    let lower = c.self.inside.lower in
    let upper = c.self.inside.upper in
    ap (λ w. properties_of w lower upper) (c.put_byte-self-inside.ensures ∙ ap (λ v. with_field 0 8 v c.self.inside.first) c.number.ensures)
    ∙ first_put 0 (category_number c.args.general_category) first lower upper (lit< tt) (category_number-below c.args.general_category)
    ∙ ap (λ g. record (properties_of first lower upper) { general_category = g }) (category_of-number c.args.general_category)
    ∙ ap (λ (p : Properties). record p { general_category = c.args.general_category }) c.self.view_is
