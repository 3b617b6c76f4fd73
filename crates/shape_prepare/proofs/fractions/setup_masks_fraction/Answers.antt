use Rattle.std.proofs.Common.{◌≡◌, true, false, refl, ap, ◌∙◌, rules}
use Rattle.shape_prepare.specs.Fractions.{fraction_masks, slashes_masked, slash_places, may_have_fractions, fractions_masked}
use Rattle.shape_prepare.specs.declared.fractions.FractionMasks.{FractionMasks}
use Rattle.shape_plan.proofs.MaskLemmas.{Made-masks}
use Rattle.shape_prepare.proofs.Masking.MaskLemmas.{alone-fractions_masked}
use Rattle.shape_prepare.proofs.fractions.setup_masks_fraction.Goals as goal

pub returns-then-may_have_fractions : goal.returns-then-may_have_fractions
unfolding fractions_masked
returns-then-may_have_fractions g c =
    let decisions = c.args.plan.now.decisions in
    let old = c.args.buffer.now in
    let due : may_have_fractions decisions old ≡ true = search rules in
    let masks = c.fraction_masks-masks.ensures ∙ ap (fraction_masks decisions) c.direction.ensures in
    let made = c.mask_slashes.ensures.made ∙ ap (λ (masks : FractionMasks). slashes_masked masks 0 (slash_places 0 old.items) old) masks in
    Made-masks (fractions_masked decisions) (rw due made) (alone-fractions_masked decisions old)

pub returns-else-may_have_fractions : goal.returns-else-may_have_fractions
unfolding fractions_masked
returns-else-may_have_fractions g c =
    let decisions = c.args.plan.now.decisions in
    let not_due : may_have_fractions decisions c.args.buffer.now ≡ false = search rules in
    Made-masks (fractions_masked decisions) (rw not_due refl) (alone-fractions_masked decisions c.args.buffer.now)
