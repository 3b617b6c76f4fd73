use Rattle.std.proofs.Common.{◌≡◌, ℕ, ◌+◌, ◌≤◌, ◌<◌, ◌*◌, ◌+ℤ◌, ◌≤ℤ◌, pos, [], ◌∷◌, ◌++◌, length, get_or, to_z, of_z, sym, ap, ap₂, subst, ◌∙◌, arith, inl, inr, rules, ◌^◌}
use Rattle.std.proofs.lemmas.Bool.{cases_lt}
use Rattle.std.proofs.lemmas.Int.{ints}
use Rattle.std.proofs.lemmas.List.{length_push}
use Rattle.shape_lines.specs.Spots.{pen}
use Rattle.shape_lines.specs.declared.spots.Spot.{Spot}
use Rattle.shape_lines.proofs.SpotLemmas.{spot-get}
use Rattle.shape_lines.proofs.MeasureLemmas.{each_push, pen-more}
use Rattle.shape_lines.proofs.measuring.pens.Goals as goal
use mir.Syntax.{w128}

pub loop-place-preserved : goal.loop-place-preserved
loop-place-preserved c =
    let ss = c.args.spots.now in
    let n = c.loop-place.place in
    let w = c.width_of-pen.result in
    let old = to_z w128 c.loop-place.pen-bits in
    let above = c.width_of-pen.ensures.above in
    let below = c.width_of-pen.ensures.below in
    let low = c.loop-place.invariant.above in
    let high = c.loop-place.invariant.below in
    let lt = c.loop-place-test.true in
    let sum : to_z w128 (of_z w128 (old +ℤ to_z w128 (of_z w128 w))) ≡ old +ℤ w = omega (arith, ints) in
    let is : to_z w128 (of_z w128 (old +ℤ to_z w128 (of_z w128 w))) ≡ pen ss (n + 1) =
    sum ∙ ap₂ (λ x y. x +ℤ y) c.loop-place.invariant.pen_is (c.width_of-pen.ensures.value ∙ sym (ap (λ (s : Spot). s.width) (spot-get ss n _ lt)))
    ∙ sym (pen-more ss n) in
    record {
      pen_is = is;
      as_many = ap length c.in_ok-push-2.ensures.items ∙ length_push c.loop-place.pens.items _ ∙ ap (λ k. k + 1) c.loop-place.invariant.as_many;
      each = subst (λ l. (k : ℕ) → k ≤ n + 1 → get_or l k (pos 0) ≡ pen ss k) (sym c.in_ok-push-2.ensures.items)
          (each_push c.loop-place.pens.items _ n (λ k z. z ≡ pen ss k) c.loop-place.invariant.as_many c.loop-place.invariant.each is);
      small = λ k le. elim (cases_lt k (n + 1)) [
        | inl less ↦ c.loop-place.invariant.small k (omega arith)
        | inr ge ↦ let here : n + 1 ≡ k = omega arith in subst (λ j. pen ss j ≤ℤ pos (j * 9223372036854775808)) here (omega (arith, ints, sum, is))
      ];
      above = omega (arith, ints, sum);
      below = omega (arith, ints, sum);
    }

pub returns-clause-small : goal.returns-clause-small
returns-clause-small c = λ k le.
    let few : length c.args.spots.now < 2 ^ 64 = search rules in
    let end = c.loop-place-test.false in
    let low = c.loop-place.invariant.small k (omega arith) in
    omega (arith, ints)
