use Rattle.std.proofs.Common.{subst, sym}
use Rattle.shape_items.specs.Items.{Item}
use Rattle.layout_matching.specs.LigatureSets.{count_of, IsSetFor}
use Rattle.layout_matching.proofs.LigatureSetLemmas.{stored_charged}
use Rattle.layout_matching.proofs.ligature_sets.set_paid.Goals as goal

pub returns-clause-left : goal.returns-clause-left
returns-clause-left c =
    let l = c.args.indexed.now.lookup.now in
    let s = c.in_ok-stored.stored.now in
    stored_charged l c.args.items.now c.args.at c.args.left c.in_ok-left.left s c.requires.substitution c.requires.four
    (subst (λ (there : Item). IsSetFor l.table.now l.place there.glyph_id s) c.at.ensures c.in_ok-stored.ensures) c.in_ok-left.ensures

pub returns-clause-out : goal.returns-clause-out
returns-clause-out c = λ refused.
    let t = c.args.indexed.now.lookup.now.table.now in
    let s = c.in_ok-stored.stored.now in
    c.is_refused.ensures refused s.set (count_of t s.set) c.in_ok-stored.ensures.held.has
