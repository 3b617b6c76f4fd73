use Rattle.std.proofs.Common.{◌≡◌, List, Some, sym, ◌∙◌, subst, arith}
use Rattle.std.proofs.lemmas.Bool.Decides.{nat_tests}
use Rattle.shape_items.specs.Items.{Item}
use Rattle.layout_matching.specs.LigatureSets.{count_of}
use Rattle.layout_matching.specs.Sifted.{AreOut, second_glance, set_there}
use Rattle.layout_matching.specs.Work.{charged_at_subtable}
use Rattle.layout_substitution.proofs.SoughtLemmas.{refused_alone}
use Rattle.layout_substitution.proofs.ligature_sought.seek_ligature.Goals as goal

pub returns-then-paid-clause-value : goal.returns-then-paid-clause-value
returns-then-paid-clause-value c =
    let l = c.args.indexed.now.lookup.now in
    let b = c.args.buffer.now in
    let at = c.args.at in
    let paid = c.in-Some.paid in
    let one : c.subtable_count.result ≡ 1 = grind (arith, nat_tests, c.if-subtable_count-eq1.true) in
    let charged : charged_at_subtable l b.items at 0 c.args.left ≡ Some paid.left =
    subst (λ (items : List Item). charged_at_subtable l items at 0 c.args.left ≡ Some paid.left) c.items.ensures c.in-Some.ensures.left in
    let there : set_there l b.items at paid.start ≡ Some paid.set =
    subst (λ (items : List Item). set_there l items at paid.start ≡ Some paid.set) c.items.ensures c.in-Some.ensures.set in
    let out : AreOut l.table.now (second_glance l b.items at) paid.set (count_of l.table.now paid.set) =
    subst (λ (items : List Item). AreOut l.table.now (second_glance l items at) paid.set (count_of l.table.now paid.set)) c.items.ensures
    (c.in-Some.ensures.out c.if-paid.true) in
    refused_alone l b at paid.start paid.set c.args.left paid.left (sym c.subtable_count.ensures.value ∙ one) c.in-Some.ensures.start charged
    there out
