use Rattle.std.proofs.Common.{◌≡◌, false, length, sym, ap, subst, ◌∙◌, arith, inl, inr}
use Rattle.std.proofs.lemmas.Bool.{cases_lt}
use Rattle.shape_lines.specs.LinesAt.{ends_before}
use Rattle.shape_lines.specs.Spots.{spot_at}
use Rattle.shape_lines.proofs.SpotLemmas.{spot-get, spot-past}
use Rattle.shape_lines.proofs.allowed.shortest.Goals as goal

pub returns-then-ends_before-clause-is : goal.returns-then-ends_before-clause-is
returns-then-ends_before-clause-is c =
    ap (ends_before c.args.anywhere) (spot-get c.args.spots.now c.loop-place.place _ c.loop-place-test.true)
    ∙ sym c.ends_before.ensures ∙ c.if-ends_before.true

pub loop-place-preserved : goal.loop-place-preserved
loop-place-preserved c = λ k after before. elim (cases_lt k c.loop-place.place) [
  | inl less ↦ c.loop-place.invariant k after less
  | inr ge ↦
      let here : c.loop-place.place ≡ k = omega arith in
      subst (λ j. ends_before c.args.anywhere (spot_at c.args.spots.now j) ≡ false) here
      (ap (ends_before c.args.anywhere) (spot-get c.args.spots.now c.loop-place.place _ c.loop-place-test.true)
      ∙ sym c.ends_before.ensures ∙ c.if-ends_before.false)
]

pub returns-clause-is : goal.returns-clause-is
returns-clause-is c = ap (ends_before c.args.anywhere) (spot-past c.args.spots.now (length c.args.spots.now) (omega arith))
