use Rattle.std.proofs.Common.{◌≡◌, ◌+◌, ◌-◌, ◌<◌, ◌≤◌, ℕ, false, nat_eq, ap, subst, ◌∙◌, arith}
use Rattle.std.proofs.lemmas.Bool.Decides.{nat_tests}
use Rattle.shape_items.specs.Items.{Item, is_ignorable_item}
use Rattle.layout_matching.specs.Loops.{along}
use Rattle.layout_matching.specs.Skipping.{nth, is_skipped}
use Rattle.layout_matching.specs.Work.{passing_step}
use Rattle.layout_matching.specs.declared.passing.Passing.{Passing}
use Rattle.layout_matching.proofs.NearestLemmas.{passed_not, step_ends}
use Rattle.layout_matching.proofs.PassingLemmas.{along_next, along_end, before_stops}
use Rattle.layout_matching.proofs.passing.is_free_before.Goals as goal

pub returns-then-stops-eq0 : goal.returns-then-stops-eq0
returns-then-stops-eq0 c = λ yes listed.
    let items = c.args.items.now in
    let here : Passing = record { stops = c.loop-d.stops; total = 0 } in
    ap (λ (p : Passing). p.total) (c.loop-d.invariant listed
    ∙ before_stops c.args.lookup.now listed items c.args.at (c.args.at - c.loop-d.d) c.loop-d.d here c.if-stops-eq0.true)

pub loop-d-preserved : goal.loop-d-preserved
loop-d-preserved c = λ listed.
    let l = c.args.lookup.now in
    let items = c.args.items.now in
    let d = c.loop-d.d in
    let there = nth items (c.args.at - 1 - d) in
    let f : ℕ → Passing → Passing = λ k. passing_step l listed (nth items (c.args.at - 1 - k)) in
    let here : Passing = record { stops = c.loop-d.stops; total = 0 } in
    let more : d < c.args.at = grind (arith, nat_tests, c.loop-d-test.true) in
    let some : nat_eq c.loop-d.stops 0 ≡ false = grind (arith, nat_tests, c.if-stops-eq0.false) in
    let seen : is_skipped l there ≡ false =
    subst (λ (y : Item). is_skipped l y ≡ false) c.at.ensures (c.ends_searches.ensures.seen c.if-not-ends_searches.false) in
    let opaque : is_ignorable_item there ≡ false =
    subst (λ (y : Item). is_ignorable_item y ≡ false) c.at.ensures (c.ends_searches.ensures.opaque c.if-not-ends_searches.false) in
    c.loop-d.invariant listed ∙ along_next f c.args.at d here more
    ∙ ap (along f (c.args.at - (d + 1)) (d + 1)) (step_ends l listed there c.loop-d.stops some (passed_not l there seen opaque))

pub returns : goal.returns
returns c = λ yes listed.
    let items = c.args.items.now in
    let here : Passing = record { stops = c.loop-d.stops; total = 0 } in
    let over : c.args.at ≤ c.loop-d.d = grind (arith, nat_tests, c.loop-d-test.false) in
    ap (λ (p : Passing). p.total) (c.loop-d.invariant listed
    ∙ along_end (λ k. passing_step c.args.lookup.now listed (nth items (c.args.at - 1 - k))) c.args.at c.loop-d.d here over)
