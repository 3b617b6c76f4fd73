use Rattle.std.proofs.Common.{◌≡◌, ℕ, ◌+◌, ◌<◌, ◌≤◌, ◌≤ℤ◌, pos, true, false, length, get_or, to_z, of_z, sym, ap, subst, ◌∙◌, arith, inl, inr}
use Rattle.std.proofs.lemmas.Bool.{cases_lt}
use Rattle.std.proofs.lemmas.Int.{ints, to_z-of_z}
use Rattle.shape_lines.specs.Spots.{spot_at}
use Rattle.shape_lines.specs.declared.spots.Spot.{Spot}
use Rattle.shape_lines.proofs.SpotLemmas.{spot-get, spot-past}
use Rattle.shape_lines.proofs.allowed.longest.Goals as goal
use Rattle.shape_lines.proofs.allowed.longest.Goals.{then-spots-place-via-then-spots-place, then-spots-place-via-else-spots-place+then-least-place}
use mir.Syntax.{w128}

pub returns-then-spots-place-clause-stops : goal.returns-then-spots-place-clause-stops
returns-then-spots-place-clause-stops c =
    let limit : to_z w128 (of_z w128 c.args.limit) ≡ c.args.limit = to_z-of_z w128 c.args.limit c.ranges.limit in
    elim c.then-spots-place.branch [
      | then-spots-place-via-then-spots-place w ↦
          inl (ap (λ (s : Spot). s.mandatory) (spot-get c.args.spots.now c.loop-place.place _ c.loop-place-test.true) ∙ w.if-spots-place.true)
      | then-spots-place-via-else-spots-place+then-least-place w ↦ let wide = w.if-least-place.true in inr (omega (arith, ints))
    ]

pub loop-place-preserved : goal.loop-place-preserved
loop-place-preserved c =
    let limit : to_z w128 (of_z w128 c.args.limit) ≡ c.args.limit = to_z-of_z w128 c.args.limit c.ranges.limit in
    let narrow = c.if-least-place.false in
    let at : get_or c.args.least.now (c.loop-place.place + 1) (pos 0) ≤ℤ c.args.limit = omega (arith, ints) in
    record {
      none = λ k after before. elim (cases_lt k c.loop-place.place) [
        | inl less ↦ c.loop-place.invariant.none k after less
        | inr ge ↦
            let here : c.loop-place.place ≡ k = omega arith in
            subst (λ j. (spot_at c.args.spots.now j).mandatory ≡ false) here
            (ap (λ (s : Spot). s.mandatory) (spot-get c.args.spots.now c.loop-place.place _ c.loop-place-test.true) ∙ c.if-spots-place.false)
      ];
      fit = λ k after before. elim (cases_lt k c.loop-place.place) [
        | inl less ↦ c.loop-place.invariant.fit k after less
        | inr ge ↦
            let here : c.loop-place.place ≡ k = omega arith in
            let there = subst (λ j. get_or c.args.least.now (j + 1) (pos 0) ≤ℤ c.args.limit) here at in
            omega (arith, ints, limit, there)
      ];
    }

pub returns-clause-stops : goal.returns-clause-stops
returns-clause-stops c =
    inl (ap (λ (s : Spot). s.mandatory) (spot-past c.args.spots.now (length c.args.spots.now) (omega arith)))
