use Rattle.std.proofs.Common.{rules}
use Rattle.shape_items.specs.Items.{is_mark_item}
use Rattle.canonical_form.proofs.Lists.DividedLemmas.{IsFirstPart-at}
use Rattle.shape_normalize.proofs.ot_shape_normalize.round_one.sequences.first_sequence.Goals as goal

pub returns : goal.returns
returns c =
    IsFirstPart-at is_mark_item c.args.infos.now c.in_ok-after.field-0-0.now c.in_ok-after.after.now _ _ c.count_marks.result
    (search rules) c.count_marks.ensures.value c.split_at.ensures.front c.split_at.ensures.back
