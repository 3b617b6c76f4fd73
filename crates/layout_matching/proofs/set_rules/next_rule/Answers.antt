use Rattle.std.proofs.Common.{◌≡◌, Bool, Option, sym, ap, ◌∙◌, subst}
use Rattle.std.specs.Option.{unwrap_or}
use Rattle.layout_matching.specs.Found.{is_chained}
use Rattle.layout_matching.specs.Scanning.{AreRefused}
use Rattle.layout_matching.specs.declared.glance.Glances.{Glances}
use Rattle.layout_matching.proofs.set_rules.next_rule.Goals as goal

pub returns-in-Some-clause-refused : goal.returns-in-Some-clause-refused
returns-in-Some-clause-refused c = λ g is k from below.
    let t = c.args.lookup.now.table.now in
    let same : c.in-Some.around ≡ g = ap (λ (o : Option Glances). unwrap_or o g) (sym c.in-Some.is ∙ is) in
    let chained : AreRefused t c.args.set.now.place c.in-Some.around (is_chained c.args.lookup.now c.args.set.now.subtable) c.args.r c.next_unrefused.result =
    subst (λ (u : Bool). AreRefused t c.args.set.now.place c.in-Some.around u c.args.r c.next_unrefused.result) c.is_chained-is_chain.ensures
    c.next_unrefused.ensures.refused in
    subst (λ (h : Glances). AreRefused t c.args.set.now.place h (is_chained c.args.lookup.now c.args.set.now.subtable) c.args.r c.next_unrefused.result) same chained k from below
