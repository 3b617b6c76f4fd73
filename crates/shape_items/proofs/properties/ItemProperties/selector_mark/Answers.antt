use Rattle.std.proofs.Common.{sym, ap, ◌∙◌, lit<}
use Rattle.bit_fields.specs.Fields.{is_set}
use Rattle.bit_fields.proofs.FieldLemmas.{fields-at}
use Rattle.shape_items.specs.Properties.{Properties}
use Rattle.shape_items.specs.Words.{first_widths, properties_of}
use Rattle.shape_items.proofs.properties.ItemProperties.selector_mark.Goals as goal

pub returns : goal.returns
unfolding properties_of
returns c =
    c.read_bit.ensures ∙ ap is_set (sym (fields-at first_widths 8 c.self.inside.first (lit< tt)))
    ∙ ap (λ (p : Properties). p.selector_mark) c.self.view_is
