use Rattle.std.proofs.Common.{◌≡◌, false, length, refl, sym, ◌∙◌, subst, arith}
use Rattle.std.proofs.lemmas.Grind.{common_steps}
use Rattle.std.proofs.lemmas.List.{get_or_read_under}
use Rattle.shape_items.specs.Items.{Item, new_item}
use Rattle.layout_matching.specs.Skipping.{nth}
use Rattle.layout_context.specs.Digested.{meets}
use Rattle.layout_context.proofs.DigestLemmas.{one_unmet}
use Rattle.layout_context.proofs.meeting.unmet.Goals as goal

pub loop-k-preserved : goal.loop-k-preserved
loop-k-preserved c =
    let d = c.args.named.now in
    let infos = c.args.infos.now in
    let k = c.loop-k.k in
    let x = c.index-infos-k.result in
    let read : x ≡ nth infos k =
    get_or_read_under infos k (length infos) x (new_item 0 0) c.index-infos-k.is (grind (arith, common_steps)) refl in
    one_unmet d infos k c.loop-k.invariant (subst (λ (y : Item). meets d y ≡ false) read (sym c.meets.ensures ∙ c.if-meets.false))
