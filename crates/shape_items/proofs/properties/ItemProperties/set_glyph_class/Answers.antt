use Rattle.std.proofs.Common.{ap, ◌∙◌, arith, lit<, bit_and}
use Rattle.bit_fields.specs.Fields.{with_field}
use Rattle.shape_items.specs.Properties.{Properties}
use Rattle.shape_items.specs.Words.{properties_of}
use Rattle.shape_items.proofs.PropertyLemmas.{lower_kept, lower_put, class-below}
use Rattle.shape_items.proofs.properties.ItemProperties.set_glyph_class.Goals as goal

pub invariant_of-self : goal.invariant_of-self
invariant_of-self c =
    rw (c.put_field-self-inside.ensures ∙ ap (λ v. with_field 0 4 v c.self.inside.lower) c.from.ensures)
    (lower_kept 0 (bit_and c.args.glyph_class.0 14) c.self.inside.first c.self.inside.lower c.self.inside.upper (lit< tt) (λ e. absurd (omega arith)) (class-below c.args.glyph_class.0) c.self.invariant)

pub returns : goal.returns
unfolding properties_of
returns c =
    let first = c.self.inside.first in
    let lower = c.self.inside.lower in
    let upper = c.self.inside.upper in
    ap (λ w. properties_of first w upper) (c.put_field-self-inside.ensures ∙ ap (λ v. with_field 0 4 v c.self.inside.lower) c.from.ensures)
    ∙ lower_put 0 (bit_and c.args.glyph_class.0 14) first lower upper (lit< tt) (class-below c.args.glyph_class.0)
    ∙ ap (λ (p : Properties). record p { glyph_class = record { 0 = bit_and c.args.glyph_class.0 14 } }) c.self.view_is
