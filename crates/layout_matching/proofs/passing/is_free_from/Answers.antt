use Rattle.std.proofs.Common.{◌≡◌, ◌+◌, ◌-◌, ◌<◌, ◌≤◌, ℕ, false, nat_eq, length, ap, subst, ◌∙◌, arith}
use Rattle.std.proofs.lemmas.Bool.Decides.{nat_tests}
use Rattle.shape_items.specs.Items.{Item, is_ignorable_item}
use Rattle.layout_matching.specs.Loops.{along}
use Rattle.layout_matching.specs.Skipping.{nth, is_skipped}
use Rattle.layout_matching.specs.Work.{passing_step}
use Rattle.layout_matching.specs.declared.passing.Passing.{Passing}
use Rattle.layout_matching.proofs.NearestLemmas.{passed_not, step_ends}
use Rattle.layout_matching.proofs.PassingLemmas.{along_next, along_end, after_stops}
use Rattle.layout_matching.proofs.passing.is_free_from.Goals as goal

pub returns-then-stops-eq0 : goal.returns-then-stops-eq0
returns-then-stops-eq0 c = λ yes listed.
    let items = c.args.items.now in
    let here : Passing = record { stops = c.loop-j.stops; total = 0 } in
    ap (λ (p : Passing). p.total) (c.loop-j.invariant listed
    ∙ after_stops c.args.lookup.now listed items (length items - c.loop-j.j) c.loop-j.j here c.if-stops-eq0.true)

pub loop-j-preserved : goal.loop-j-preserved
loop-j-preserved c = λ listed.
    let l = c.args.lookup.now in
    let items = c.args.items.now in
    let j = c.loop-j.j in
    let f : ℕ → Passing → Passing = λ k. passing_step l listed (nth items k) in
    let here : Passing = record { stops = c.loop-j.stops; total = 0 } in
    let more : j < length items = grind (arith, nat_tests, c.loop-j-test.true, c.len-j-end.ensures) in
    let some : nat_eq c.loop-j.stops 0 ≡ false = grind (arith, nat_tests, c.if-stops-eq0.false) in
    let seen : is_skipped l (nth items j) ≡ false =
    subst (λ (y : Item). is_skipped l y ≡ false) c.at.ensures (c.ends_searches.ensures.seen c.if-not-ends_searches.false) in
    let opaque : is_ignorable_item (nth items j) ≡ false =
    subst (λ (y : Item). is_ignorable_item y ≡ false) c.at.ensures (c.ends_searches.ensures.opaque c.if-not-ends_searches.false) in
    c.loop-j.invariant listed ∙ along_next f (length items) j here more
    ∙ ap (along f (length items - (j + 1)) (j + 1)) (step_ends l listed (nth items j) c.loop-j.stops some (passed_not l (nth items j) seen opaque))

pub returns : goal.returns
returns c = λ yes listed.
    let items = c.args.items.now in
    let here : Passing = record { stops = c.loop-j.stops; total = 0 } in
    let over : length items ≤ c.loop-j.j = grind (arith, nat_tests, c.loop-j-test.false, c.len-j-end.ensures) in
    ap (λ (p : Passing). p.total) (c.loop-j.invariant listed
    ∙ along_end (λ k. passing_step c.args.lookup.now listed (nth items k)) (length items) c.loop-j.j here over)
