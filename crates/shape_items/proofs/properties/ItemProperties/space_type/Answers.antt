use Rattle.std.proofs.Common.{sym, ap, ◌∙◌, lit<}
use Rattle.bit_fields.proofs.FieldLemmas.{fields-at}
use Rattle.shape_items.specs.Properties.{Properties}
use Rattle.shape_items.specs.Words.{first_widths, properties_of}
use Rattle.shape_items.proofs.properties.ItemProperties.space_type.Goals as goal

pub returns : goal.returns
unfolding properties_of
returns c =
    c.read_byte.ensures ∙ sym (fields-at first_widths 2 c.self.inside.first (lit< tt))
    ∙ ap (λ (p : Properties). p.space_type) c.self.view_is
