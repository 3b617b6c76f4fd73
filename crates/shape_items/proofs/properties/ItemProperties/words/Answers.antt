use Rattle.std.proofs.Common.{◌++◌, sym, ap, ap₂, ◌∙◌}
use Rattle.bit_fields.specs.Fields.{fields}
use Rattle.bit_fields.proofs.JoinLemmas.{fields-join}
use Rattle.shape_items.specs.Words.{lower_widths, upper_widths, second_widths, first_values, second_values}
use Rattle.shape_items.specs.WordLaws.{first_values-read, lower_values-read, upper_values-read}
use Rattle.shape_items.proofs.properties.ItemProperties.words.Goals as goal

pub returns-clause-first : goal.returns-clause-first
returns-clause-first c =
    sym (first_values-read c.self.inside.first c.self.inside.lower c.self.inside.upper c.self.invariant)
    ∙ ap first_values c.self.view_is

pub returns-clause-second : goal.returns-clause-second
returns-clause-second c =
    let first = c.self.inside.first in
    let lower = c.self.inside.lower in
    let upper = c.self.inside.upper in
    ap (fields second_widths) c.join.ensures
    ∙ fields-join lower_widths upper_widths lower upper c.self.invariant.lower_fits
    ∙ sym (ap₂ (λ l u. l ++ u) (lower_values-read first lower upper c.self.invariant) (upper_values-read first lower upper))
    ∙ ap second_values c.self.view_is
