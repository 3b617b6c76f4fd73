-- rules that look as far as others pass over as much, and those that look less far over nothing where the others do
use Prim.Native.Nat.{zero}
use Rattle.std.proofs.Common.{◌≡◌, ℕ, suc, ◌+◌, ◌-◌, ◌*◌, ◌/◌, ◌<◌, ◌≤◌, Bool, true, false, List, length, min, nat_eq, refl, ap, ◌∙◌, arith, if◌then◌else◌}
use Rattle.std.proofs.lemmas.Bool.Decides.{nat_tests}
use Rattle.shape_items.specs.Buffer.{most_countable}
use Rattle.shape_items.specs.Items.{Item}
use Rattle.layout_matching.specs.Input.{marks_passed}
use Rattle.layout_matching.specs.Loops.{along}
use Rattle.layout_matching.specs.Skipping.{nth}
use Rattle.layout_matching.specs.Work.{is_passed, passed, passed_after, passed_before, passing_step, passing_work, SEARCH_WORK, searches}
use Rattle.layout_matching.specs.declared.lookup.Lookup.{Lookup}
use Rattle.layout_matching.specs.declared.passing.Passing.{Passing}
use Rattle.layout_matching.specs.declared.tally.Tally.{Tally}

pub same_reach : (l : Lookup) (listed : Bool) (items : List Item) (at : ℕ) (s t : Tally) → s.before ≡ t.before → s.after ≡ t.after
    → passed l listed items at s ≡ passed l listed items at t
same_reach l listed items at s t before after =
    ap (λ n. min (min (n + passed_before l listed items at s.before) most_countable + marks_passed l items at / 4) most_countable)
    (ap (passed_after l listed items at) after)
    ∙ ap (λ n. min (min (passed_after l listed items at t.after + n) most_countable + marks_passed l items at / 4) most_countable)
    (ap (passed_before l listed items at) before)

-- one step: what was passed over stays, and fewer stops pass over no more
step-some : (w : ℕ) (s : Passing) (stop over : Bool) → 0 < s.total
    → 0 < (if stop then s else (if over then record s { total = min (s.total + w) most_countable } else record s { stops = s.stops - 1 })).total
step-some w s true over some = some
step-some w s false true some = omega (arith, some)
step-some w s false false some = some

stays-some : (l : Lookup) (listed : Bool) (there : ℕ → Item) (n k : ℕ) (s : Passing) → 0 < s.total
    → 0 < (along (λ j. passing_step l listed (there j)) n k s).total
stays-some l listed there zero k s some = some
stays-some l listed there (suc n) k s some =
    stays-some l listed there n (suc k) (passing_step l listed (there k) s)
    (step-some (passing_work l listed (there k)) s (nat_eq s.stops 0) (is_passed l (there k)) some)

free-less : (l : Lookup) (listed : Bool) (there : ℕ → Item) (n k stops more : ℕ) → stops ≤ more
    → (along (λ j. passing_step l listed (there j)) n k (record { stops = more; total = 0 })).total ≡ 0
    → (along (λ j. passing_step l listed (there j)) n k (record { stops = stops; total = 0 })).total ≡ 0
free-less l listed there zero k stops more fewer none = none
free-less l listed there (suc n) k stops more fewer none =
    by_stops (λ a b less free. free-less l listed there n (suc k) a b less free)
    (nat_eq more 0) (nat_eq stops 0) (is_passed l (there k)) refl refl none
  where
    f : ℕ → Passing → Passing
    f = λ j. passing_step l listed (there j)

    w : ℕ
    w = passing_work l listed (there k)

    made : ℕ → Bool → Bool → Passing
    made m stop over = if stop then record { stops = m; total = 0 }
        else (if over then record { stops = m; total = min (0 + w) most_countable } else record { stops = m - 1; total = 0 })

    by_stops : ((a b : ℕ) → a ≤ b → (along f n (suc k) (record { stops = b; total = 0 })).total ≡ 0
        → (along f n (suc k) (record { stops = a; total = 0 })).total ≡ 0)
        → (a b over : Bool) → nat_eq more 0 ≡ a → nat_eq stops 0 ≡ b → (along f n (suc k) (made more a over)).total ≡ 0
        → (along f n (suc k) (made stops b over)).total ≡ 0
    by_stops again true true over is too free = again stops more fewer free
    by_stops again true false over is too free = absurd (grind (arith, nat_tests, is, too, fewer))
    by_stops again false b true is too free =
        let some : 0 < min (0 + w) most_countable = omega arith in
        let still : 0 < (along f n (suc k) (made more false true)).total = stays-some l listed there n (suc k) (made more false true) some in
        absurd (omega (arith, free, still))
    by_stops again false true false is too free = again stops (more - 1) (grind (arith, nat_tests, is, too)) free
    by_stops again false false false is too free = again (stops - 1) (more - 1) (omega (arith, fewer)) free

pub free_within : (l : Lookup) (listed : Bool) (items : List Item) (at : ℕ) (s t : Tally) → s.before ≤ t.before → s.after ≤ t.after
    → passed l listed items at t ≡ 0 → passed l listed items at s ≡ 0
free_within l listed items at s t before after none =
    let behind : passed_after l listed items at t.after ≡ 0 = omega (arith, none) in
    let front : passed_before l listed items at t.before ≡ 0 = omega (arith, none) in
    let marks : marks_passed l items at / 4 ≡ 0 = omega (arith, none) in
    let less : passed_after l listed items at s.after ≡ 0 =
    free-less l listed (λ j. nth items j) (length items - (at + 1)) (at + 1) s.after t.after after behind in
    let fewer : passed_before l listed items at s.before ≡ 0 =
    free-less l listed (λ d. nth items (at - 1 - d)) at 0 s.before t.before before front in
    omega (arith, less, fewer, marks)
