use Rattle.std.proofs.Common.{ℕ, ◌+◌, ◌<◌, ◌≤◌, pos, drop, length, get_or, ◌∙◌, arith, rules, inl, inr, FitsSigned, to_z, of_z}
use Rattle.std.proofs.lemmas.Bool.{cases_lt}
use Rattle.std.proofs.lemmas.Int.{to_z-of_z}
use Rattle.shape_carets.specs.Cells.{cell, start_of}
use Rattle.shape_carets.proofs.SpreadLemmas.{push-cell, rises-at, start-at}
use Rattle.shape_carets.proofs.StopLemmas.{inside-stretch}
use Rattle.shape_carets.proofs.caret.carets_in.Goals as goal
use mir.Syntax.{w32}

pub overflow_add-cell : goal.overflow_add-cell
overflow_add-cell c =
    let up = rises-at c.args.text_end c.args.cells.now c.loop-place.place (cell 0 (pos 0)) c.requires.rise c.loop-place-test.true in
    let is = c.start_after-end.ensures in
    let small = c.start_after-end.type_inv in
    omega arith

pub loop-place-preserved : goal.loop-place-preserved
loop-place-preserved c =
    let cells = c.args.cells.now in
    let stops = c.args.stops.now in
    let n = c.loop-place.place in
    let here = get_or cells n (cell 0 (pos 0)) in
    let from = c.skip_below-from.result in
    let next = c.skip_below-next.result in
    let end_is = c.start_after-end.ensures in
    let up = rises-at c.args.text_end cells n (cell 0 (pos 0)) c.requires.rise c.loop-place-test.true in
    let start = start-at c.args.text_end cells n (cell 0 (pos 0)) c.loop-place-test.true in
    let before : (k : ℕ) → k < from → get_or stops k 0 < here.offset + 1 = λ k lt. elim (cases_lt k c.loop-place.next) [
      | inl earlier ↦ let low = c.loop-place.invariant.passed k earlier in omega arith
      | inr ge ↦ let low = c.skip_below-from.ensures.below k ge lt in omega arith
    ] in
    let inside : (k : ℕ) → from ≤ k → k < next → (here.offset < get_or stops k 0) × (get_or stops k 0 < start_of c.args.text_end (drop (n + 1) cells)) = λ k ge lt.
    let high = c.skip_below-next.ensures.below k ge lt in
    let within = c.skip_below-next.ensures.within in
    let reached = c.skip_below-from.ensures.reached (omega arith) in
    let rise = c.requires.sorted from k 0 ge (omega arith) in
    (omega arith, omega arith) in
    let after : (k : ℕ) → next ≤ k → k < length stops → start_of c.args.text_end (drop (n + 1) cells) ≤ get_or stops k 0 = λ k ge lt.
    let reached = c.skip_below-next.ensures.reached (omega arith) in
    let rise = c.requires.sorted next k 0 ge lt in
    omega arith in
    let stretch = inside-stretch here.offset (start_of c.args.text_end (drop (n + 1) cells)) stops from next c.skip_below-next.ensures.order
    c.skip_below-next.ensures.within before inside after in
    let fits : FitsSigned w32 c.moved-x.result = search rules in
    let is = to_z-of_z w32 c.moved-x.result fits ∙ c.moved-x.ensures in
    record {
      rest = push-cell c.args.text_end stops (to_z w32 c.loop-place.x-bits) (to_z w32 (of_z w32 c.moved-x.result)) cells n (cell 0 (pos 0)) _
          c.loop-place.carets.items _ _ c.loop-place-test.true is stretch c.in_ok-push_cell.ensures c.loop-place.invariant.rest;
      within = c.skip_below-next.ensures.within;
      passed = λ k lt. elim (cases_lt k from) [
        | inl earlier ↦ let low = before k earlier in omega arith
        | inr ge ↦ let both = inside k ge lt in both.1
      ];
    }
