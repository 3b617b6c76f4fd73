use Rattle.std.proofs.Common.{sym, ap, ◌∙◌, lit<}
use Rattle.bit_fields.proofs.FieldLemmas.{fields-at}
use Rattle.shape_items.specs.Properties.{Properties}
use Rattle.shape_items.specs.Words.{lower_widths, properties_of}
use Rattle.shape_items.proofs.properties.ItemProperties.ligature_id.Goals as goal

pub returns : goal.returns
unfolding properties_of
returns c =
    c.read_byte.ensures ∙ sym (fields-at lower_widths 6 c.self.inside.lower (lit< tt))
    ∙ ap (λ (p : Properties). p.ligature_id) c.self.view_is
