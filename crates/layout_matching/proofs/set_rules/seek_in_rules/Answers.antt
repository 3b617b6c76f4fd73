use Rattle.std.proofs.Common.{◌≡◌, ◌<◌, ◌≤◌, ◌+◌, ℕ, Option, Some, refl, sym, ap, ◌∙◌, arith}
use Rattle.std.proofs.lemmas.Bool.Decides.{nat_tests}
use Rattle.std.specs.Option.{option_map}
use Rattle.layout_matching.specs.Found.{found_at}
use Rattle.layout_matching.specs.Sought.{rule_sought, unfound, unless_found}
use Rattle.layout_matching.specs.declared.found.Found.{Found}
use Rattle.layout_matching.specs.declared.sought.Sought.{Sought}
use Rattle.layout_matching.proofs.LoopLemmas.{steps_end}
use Rattle.layout_matching.proofs.ScanLemmas.{passed_rules, rules_next}
use Rattle.layout_matching.proofs.SoughtLemmas.{found_there}
use Rattle.layout_matching.proofs.set_rules.seek_in_rules.Goals as goal

pub loop-r-preserved-in_default : goal.loop-r-preserved-in_default
loop-r-preserved-in_default c =
    let l = c.args.lookup.now in
    let items = c.args.items.now in
    let origin = c.args.origin in
    let subtable = c.args.set.now.subtable in
    let set = c.args.set.now.place in
    let left = c.loop-r.paid.left in
    let more : c.loop-r.r < c.rules_in-count.result = grind (arith, nat_tests, c.loop-r-test.true) in
    record {
      within = c.next_rule-r.ensures.few;
      made = c.loop-r.invariant.made
          ∙ rules_next (rule_sought l items origin subtable set) c.rules_in-count.result c.loop-r.r c.next_rule-r.result left left more
          (c.in_default.ensures.value left) c.next_rule-r.ensures.from c.next_rule-r.ensures.few
          (λ k from below. passed_rules l items origin subtable set (c.loop-r.r + 1) c.next_rule-r.result c.unrefused.new.known
          c.in_default.ensures.known c.next_rule-r.ensures.none c.next_rule-r.ensures.refused k left from below);
      around = c.in_default.ensures.known;
      known = c.loop-r.invariant.known;
      none = c.loop-r.invariant.none;
    }

pub loop-r-preserved : goal.loop-r-preserved
loop-r-preserved c =
    let l = c.args.lookup.now in
    let items = c.args.items.now in
    let origin = c.args.origin in
    let subtable = c.args.set.now.subtable in
    let set = c.args.set.now.place in
    let rest = c.in-Some-rule_paid.next.left in
    let more : c.loop-r.r < c.rules_in-count.result = grind (arith, nat_tests, c.loop-r-test.true) in
    let is : rule_sought l items origin subtable set c.loop-r.r c.loop-r.paid.left ≡ Some (unfound rest) =
    c.in-Some.ensures.value c.loop-r.paid.left
    ∙ ap (option_map (λ (n : ℕ). record { left = n; found = found_at l items origin subtable c.in-Some.place }))
    (sym c.in-Some-rule_paid.ensures.value)
    ∙ ap (λ (o : Option Found). Some (record { left = rest; found = o })) (sym c.in_default-found_at.ensures.value) in
    record {
      within = c.next_rule-r-in-loop-r.ensures.few;
      made = c.loop-r.invariant.made
          ∙ rules_next (rule_sought l items origin subtable set) c.rules_in-count.result c.loop-r.r c.next_rule-r-in-loop-r.result c.loop-r.paid.left
          rest more is c.next_rule-r-in-loop-r.ensures.from c.next_rule-r-in-loop-r.ensures.few
          (λ k from below. passed_rules l items origin subtable set (c.loop-r.r + 1) c.next_rule-r-in-loop-r.result c.unrefused.new.known
          c.in-Some.ensures.known c.next_rule-r-in-loop-r.ensures.none c.next_rule-r-in-loop-r.ensures.refused k rest
          from below);
      around = c.in-Some.ensures.known;
      known = c.in-Some-rule_paid.ensures.known;
      none = c.loop-r.invariant.none;
    }

pub returns-in-Some-found_at-clause-paid : goal.returns-in-Some-found_at-clause-paid
returns-in-Some-found_at-clause-paid c = λ yes.
    let l = c.args.lookup.now in
    let items = c.args.items.now in
    let origin = c.args.origin in
    let subtable = c.args.set.now.subtable in
    let rest = c.in-Some-rule_paid.next.left in
    let s : Sought = record { left = rest; found = Some c.in-Some-found_at.found } in
    let more : c.loop-r.r < c.rules_in-count.result = grind (arith, nat_tests, c.loop-r-test.true) in
    let is : rule_sought l items origin subtable c.args.set.now.place c.loop-r.r c.loop-r.paid.left ≡ Some s =
    c.in-Some.ensures.value c.loop-r.paid.left
    ∙ ap (option_map (λ (n : ℕ). record { left = n; found = found_at l items origin subtable c.in-Some.place }))
    (sym c.in-Some-rule_paid.ensures.value)
    ∙ ap (λ (o : Option Found). Some (record { left = rest; found = o })) (sym c.in-Some-found_at.ensures.value) in
    c.loop-r.invariant.made
    ∙ found_there (rule_sought l items origin subtable c.args.set.now.place) c.rules_in-count.result c.loop-r.r c.loop-r.paid.left s more is refl

pub returns-clause-paid : goal.returns-clause-paid
returns-clause-paid c = λ yes.
    let l = c.args.lookup.now in
    let left = c.loop-r.paid.left in
    let over : c.rules_in-count.result ≤ c.loop-r.r = grind (arith, nat_tests, c.loop-r-test.false) in
    c.loop-r.invariant.made
    ∙ steps_end (unless_found (rule_sought l c.args.items.now c.args.origin c.args.set.now.subtable c.args.set.now.place))
    c.rules_in-count.result c.loop-r.r (unfound left) over
    ∙ ap (λ (o : Option Found). Some (record { left = left; found = o })) (sym c.loop-r.invariant.none)
