use Rattle.std.proofs.Common.{rules}
use Rattle.canonical_form.proofs.Lists.DividedLemmas.{IsFirstPart-at}
use Rattle.shape_normalize.specs.RoundOne.{is_selector_item}
use Rattle.shape_normalize.proofs.ot_shape_normalize.round_one.sequences.first_variant.Goals as goal

pub returns : goal.returns
returns g c =
    let belongs = is_selector_item g.U.hb_unicode_funcs_t.unicode in
    IsFirstPart-at belongs c.args.infos.now c.in_ok-after.field-0-0.now c.in_ok-after.after.now _ _ c.count_selectors.result
    (search rules) c.count_selectors.ensures.value c.split_at.ensures.front c.split_at.ensures.back
