use Rattle.std.proofs.Common.{sym, ap, ◌∙◌, lit<}
use Rattle.bit_fields.proofs.FieldLemmas.{fields-at}
use Rattle.shape_common.specs.Category.{is_mark_category}
use Rattle.shape_common.specs.CategoryNumber.{category_of}
use Rattle.shape_items.specs.Properties.{Properties}
use Rattle.shape_items.specs.Words.{first_widths, properties_of}
use Rattle.shape_items.proofs.CategoryLemmas.{mark_by_number}
use Rattle.shape_items.proofs.properties.ItemProperties.is_mark.Goals as goal

pub returns : goal.returns
unfolding properties_of
returns c =
    c.is_mark_number.ensures ∙ sym (mark_by_number c.read_byte.result)
    ∙ ap is_mark_category (ap category_of (c.read_byte.ensures ∙ sym (fields-at first_widths 0 c.self.inside.first (lit< tt)))
    ∙ ap (λ (p : Properties). p.general_category) c.self.view_is)
