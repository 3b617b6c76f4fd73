use Rattle.std.proofs.Common.{◌≡◌, ◌≤◌, Option, IfSome, sym, ◌∙◌, subst, arith}
use Rattle.std.proofs.lemmas.Bool.Decides.{nat_tests}
use Rattle.layout_matching.specs.Work.{IsBeside}
use Rattle.layout_matching.specs.declared.remembered.Beside.{Beside}
use Rattle.layout_matching.specs.declared.tally.Tally.{Tally}
use Rattle.layout_matching.proofs.ReachAgainLemmas.{free_within}
use Rattle.layout_matching.proofs.remembered.passed_again.Goals as goal

pub returns-then-count-there-2-clause-value : goal.returns-then-count-there-2-clause-value
returns-then-count-there-2-clause-value c =
    let l = c.args.lookup.now in
    let items = c.args.items.now in
    let there = c.in-Some.there in
    let reach : Tally = record { left = 0; before = there.before; after = there.after; tries = 0 } in
    let known : IsBeside l c.args.listed items c.args.at there =
    subst (λ (o : Option Beside). IfSome o (IsBeside l c.args.listed items c.args.at)) c.in-Some.is c.requires.known in
    let none : there.passed ≡ 0 = grind (arith, nat_tests, c.if-there-eq0.true) in
    let before : c.args.count.before ≤ there.before = grind (arith, nat_tests, c.if-count-there.true) in
    let after : c.args.count.after ≤ there.after = grind (arith, nat_tests, c.if-count-there-2.true) in
    sym (free_within l c.args.listed items c.args.at c.args.count reach before after (sym known ∙ none))
