use Rattle.std.proofs.Common.{rules, ◌≡◌, ◌∙◌, ap}
use Rattle.std.proofs.lemmas.List.{take_rest}
use Rattle.std.specs.List.{list_any}
use Rattle.shape_items.specs.Items.{is_mark_item}
use Rattle.shape_buffer.proofs.Loops.PassingLemmas.{past_alone}
use Rattle.shape_normalize.proofs.ot_shape_normalize.has_mark.Goals as goal

pub returns : goal.returns
returns c =
    let items = c.args.infos.now in
    let first = c.passed_over-first.result in
    let none = c.passed_over-first.ensures.none is_mark_item (λ x y said. search rules) in
    c.has_mark_one_by_one.ensures ∙ ap (list_any is_mark_item) (take_rest items first) ∙ past_alone is_mark_item items first none
