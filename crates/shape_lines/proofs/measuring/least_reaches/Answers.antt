use Rattle.std.proofs.Common.{◌≡◌, ℕ, ◌+◌, ◌-◌, ◌<◌, ◌≤◌, pos, length, get_or, sym, subst, ◌∙◌, FitsSigned, to_z, of_z, arith, rules}
use Rattle.std.proofs.lemmas.Int.{to_z-of_z}
use Rattle.std.proofs.lemmas.List.{get_or_read, get_or-set_other, length-set}
use Rattle.shape_lines.specs.Measured.{IsLeastReach}
use Rattle.shape_lines.specs.Spots.{reach}
use Rattle.shape_lines.proofs.SpotLemmas.{spot-get}
use Rattle.shape_lines.proofs.MeasureLemmas.{least-end, least_at, least_set}
use Rattle.shape_lines.proofs.measuring.least_reaches.Goals as goal
use mir.Syntax.{w128}

pub loop-place-init : goal.loop-place-init
loop-place-init c =
    let ss = c.args.spots.now in
    let any = c.args.anywhere in
    let n = length ss in
    let zs = c.args.reaches.items in
    let value : get_or zs n (pos 0) ≡ reach ss n = c.requires.each n (omega arith) in
    record {
      as_many = c.requires.as_many;
      done = λ k low high.
          let here : n ≡ k = omega arith in
          subst (λ j. IsLeastReach any ss j (get_or zs j (pos 0))) here (subst (IsLeastReach any ss n) (sym value) (least-end any ss));
      still = λ k lt. c.requires.each k (omega arith);
    }

pub loop-place-preserved : goal.loop-place-preserved
loop-place-preserved c =
    let ss = c.args.spots.now in
    let any = c.args.anywhere in
    let zs = c.loop-place.least.items in
    let n = c.loop-place.place in
    let some = c.loop-place-test.true in
    let top = c.loop-place.auto.place in
    let long = c.loop-place.invariant.as_many in
    let p = n - 1 in
    let lt : p < length ss = omega arith in
    let before : p < length zs = omega arith in
    let within : p + 1 < length zs = omega arith in
    let up : n ≡ p + 1 = omega arith in
    let le : n ≤ p + 1 = omega arith in
    let is_v : to_z w128 (of_z w128 c.least_on.result) ≡ c.least_on.result = search rules in
    let here_is : to_z w128 (of_z w128 c.index.result.now) ≡ c.index.result.now = search rules in
    let on_is : to_z w128 (of_z w128 c.index-in-loop-place.result.now) ≡ c.index-in-loop-place.result.now = search rules in
    let here = here_is ∙ get_or_read zs p c.index.result.now before c.index.ensures (pos 0) ∙ c.loop-place.invariant.still p (omega arith) in
    let next = on_is ∙ get_or_read zs (p + 1) c.index-in-loop-place.result.now within c.index-in-loop-place.ensures (pos 0) in
    let rest = subst (IsLeastReach any ss (p + 1)) (sym next) (c.loop-place.invariant.done (p + 1) le (omega arith)) in
    let at = least_at any ss p _ _ _ _ lt (sym (spot-get ss p _ lt)) here rest c.least_on.ensures in
    let put = subst (IsLeastReach any ss p) (sym is_v) at in
    record {
      as_many = length-set zs p _ ∙ long;
      done = least_set any ss zs n p _ up (omega arith) long c.loop-place.invariant.done put;
      still = λ k less. get_or-set_other zs p k _ (pos 0) (λ e. omega arith) ∙ c.loop-place.invariant.still k (omega arith);
    }

pub returns : goal.returns
returns c =
    let end = c.loop-place-test.false in
    record {
      as_many = c.loop-place.invariant.as_many;
      each = λ k le. c.loop-place.invariant.done k (omega arith) le;
    }
