use Rattle.std.proofs.Common.{sym, ap, ◌∙◌, lit<}
use Rattle.bit_fields.proofs.FieldLemmas.{fields-at}
use Rattle.shape_items.specs.Properties.{Properties}
use Rattle.shape_items.specs.Words.{lower_widths, properties_of}
use Rattle.shape_items.proofs.properties.ItemProperties.glyph_class.Goals as goal

pub returns : goal.returns
unfolding properties_of
returns c =
    ap (λ n. record { 0 = n }) (c.read_field.ensures ∙ sym (fields-at lower_widths 0 c.self.inside.lower (lit< tt)))
    ∙ ap (λ (p : Properties). p.glyph_class) c.self.view_is
