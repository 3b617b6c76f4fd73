use Rattle.std.proofs.Common.{◌≡◌, ◌+◌, ◌&&◌, nat_lt, true, false, List, ap, ap₂, sym, ◌∙◌, rules}
use Rattle.shape_items.specs.BufferClusters.{unsafe_to_break}
use Rattle.shape_items.specs.Items.{Item}
use Rattle.shape_prepare.specs.Fractions.{features_added, slash_masked, has_whole, whole_start, whole_end}
use Rattle.shape_plan.proofs.MaskLemmas.{Made-masks}
use Rattle.shape_prepare.proofs.Masking.MaskLemmas.{alone-slash_masked, slash_masked-alone, slash_masked-whole}
use Rattle.shape_prepare.proofs.fractions.mask_slash.Goals as goal

pub returns-then-not-has_both_sides-clause-masked : goal.returns-then-not-has_both_sides-clause-masked
returns-then-not-has_both_sides-clause-masked c =
    let items = c.args.buffer.now.items in
    let slash = c.args.slash in
    let at_start = c.whole_start-start.ensures.value ∙ ap (λ (xs : List Item). whole_start xs slash) c.infos.ensures in
    let at_end = c.whole_end-end.ensures.value ∙ ap (λ (xs : List Item). whole_end xs slash) c.infos-2.ensures in
    let unlike : c.has_both_sides.result ≡ false = search rules in
    let none : has_whole items slash ≡ false = sym (ap₂ (λ start end. nat_lt start slash && nat_lt (slash + 1) end) at_start at_end)
    ∙ sym c.has_both_sides.ensures ∙ unlike in
    Made-masks (slash_masked c.args.masks slash) (c.unsafe_to_concat.ensures.marked
    ∙ sym (slash_masked-alone c.args.masks slash c.args.buffer.now none)) (alone-slash_masked c.args.masks slash c.args.buffer.now)

pub returns-clause-masked : goal.returns-clause-masked
returns-clause-masked c =
    let masks = c.args.masks in
    let old = c.args.buffer.now in
    let slash = c.args.slash in
    let at_start = c.whole_start-start.ensures.value ∙ ap (λ (xs : List Item). whole_start xs slash) c.infos.ensures in
    let at_end = c.whole_end-end.ensures.value ∙ ap (λ (xs : List Item). whole_end xs slash) c.infos-2.ensures in
    let like : c.has_both_sides.result ≡ true = search rules in
    let some : has_whole old.items slash ≡ true = sym (ap₂ (λ start end. nat_lt start slash && nat_lt (slash + 1) end) at_start at_end)
    ∙ sym c.has_both_sides.ensures ∙ like in
    let start = c.whole_start-start.result in
    let end = c.whole_end-end.result in
    let made = c.add_features-3.ensures.added.made
    ∙ ap (features_added masks.after (slash + 1) end) (c.add_features-2.ensures.added.made
    ∙ ap (features_added masks.slash slash (slash + 1)) (c.add_features.ensures.added.made
    ∙ ap (features_added masks.before start slash) c.unsafe_to_break.ensures.marked)) in
    let moved = ap₂ (λ start end. features_added masks.after (slash + 1) end
    (features_added masks.slash slash (slash + 1)
    (features_added masks.before start slash (unsafe_to_break start end old)))) at_start at_end in
    Made-masks (slash_masked masks slash) (made ∙ moved ∙ sym (slash_masked-whole masks slash old some))
    (alone-slash_masked masks slash old)
