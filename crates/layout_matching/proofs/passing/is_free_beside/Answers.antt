use Rattle.std.proofs.Common.{◌≡◌, false, subst, sym, ◌∙◌}
use Rattle.shape_items.specs.Items.{Item}
use Rattle.layout_matching.specs.Input.{is_on_component}
use Rattle.layout_matching.specs.Skipping.{nth}
use Rattle.layout_matching.proofs.NearestLemmas.{passed_none, not_true}
use Rattle.layout_matching.proofs.passing.is_free_beside.Goals as goal

pub returns : goal.returns
returns c = λ off listed.
    let items = c.args.items.now in
    let single : is_on_component (nth items c.args.at) ≡ false =
    subst (λ (y : Item). is_on_component y ≡ false) c.at.ensures (sym c.is_on_component.ensures ∙ not_true c.is_on_component.result off) in
    passed_none c.args.lookup.now listed items c.args.at c.args.count
    (c.is_free_before.ensures c.if-not-is_free_before.false listed) (c.is_free_from.ensures c.if-not-is_free_from.false listed) single
