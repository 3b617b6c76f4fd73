use Rattle.std.proofs.Common.{◌≡◌, ℕ, ◌+◌, ◌≤◌, ◌<◌, pos, [], ◌∷◌, ◌++◌, length, get_or, to_z, of_z, sym, ap, subst, ◌∙◌, arith, rules}
use Rattle.std.proofs.lemmas.List.{length_push}
use Rattle.shape_lines.specs.Spots.{reach}
use Rattle.shape_lines.proofs.SpotLemmas.{spot-get}
use Rattle.shape_lines.proofs.MeasureLemmas.{each_push, reach_step}
use Rattle.shape_lines.proofs.measuring.reaches.Goals as goal
use mir.Syntax.{w128}

pub loop-place-preserved : goal.loop-place-preserved
loop-place-preserved c =
    let ss = c.args.spots.now in
    let n = c.loop-place.place in
    let lt = c.loop-place-test.true in
    let fits : to_z w128 (of_z w128 c.reach_on-reach.result) ≡ c.reach_on-reach.result = search rules in
    let pen_fits : to_z w128 (of_z w128 (get_or c.args.pens.now (n + 1) (pos 0))) ≡ get_or c.args.pens.now (n + 1) (pos 0) = search rules in
    let after = pen_fits ∙ c.requires.each (n + 1) (omega arith) in
    let is : to_z w128 (of_z w128 c.reach_on-reach.result) ≡ reach ss (n + 1) =
    fits ∙ reach_step ss n _ _ _ _ (sym (spot-get ss n _ lt)) c.loop-place.invariant.reach_is after c.reach_on-reach.ensures in
    record {
      reach_is = is;
      as_many = ap length c.in_ok-push-2.ensures.items ∙ length_push c.loop-place.reaches.items _ ∙ ap (λ k. k + 1) c.loop-place.invariant.as_many;
      each = subst (λ l. (k : ℕ) → k ≤ n + 1 → get_or l k (pos 0) ≡ reach ss k) (sym c.in_ok-push-2.ensures.items)
          (each_push c.loop-place.reaches.items _ n (λ k z. z ≡ reach ss k) c.loop-place.invariant.as_many c.loop-place.invariant.each is);
    }
