use Rattle.std.proofs.Common.{◌≡◌, ◌+◌, ◌<◌, false, length, sym, subst, ◌∙◌, arith}
use Rattle.std.proofs.lemmas.Bool.Decides.{nat_tests}
use Rattle.shape_items.specs.Items.{Item, is_ignorable_item}
use Rattle.layout_matching.specs.Firsts.{may_begin}
use Rattle.layout_matching.specs.Skipping.{nth, is_skipped}
use Rattle.layout_matching.proofs.LigatureSetLemmas.{glyph_refuses}
use Rattle.layout_matching.proofs.NearestLemmas.{not_true}
use Rattle.layout_matching.proofs.ligature_sets.is_refused.Goals as goal

pub returns-then-ends_searches : goal.returns-then-ends_searches
returns-then-ends_searches c = λ yes set n has.
    let l = c.args.lookup.now in
    let items = c.args.items.now in
    let s = c.args.stored.now in
    let more : c.args.at + 1 < length items = grind (arith, nat_tests, c.if-count-next.false, c.len-count.ensures) in
    let seen : is_skipped l (nth items (c.args.at + 1)) ≡ false =
    subst (λ (y : Item). is_skipped l y ≡ false) c.at-there.ensures (c.ends_searches.ensures.seen c.if-ends_searches.true) in
    let opaque : is_ignorable_item (nth items (c.args.at + 1)) ≡ false =
    subst (λ (y : Item). is_ignorable_item y ≡ false) c.at-there.ensures (c.ends_searches.ensures.opaque c.if-ends_searches.true) in
    let out : may_begin s.seconds (nth items (c.args.at + 1)).glyph_id ≡ false =
    subst (λ (y : Item). may_begin s.seconds y.glyph_id ≡ false) c.at-there.ensures (sym c.has.ensures ∙ not_true c.has.result yes) in
    glyph_refuses l items c.args.at set n s more seen opaque out has
