use Rattle.std.proofs.Common.{ℕ, Option, Some, ap, ◌∙◌}
use Rattle.shape_items.specs.Buffer.{Buffer}
use Rattle.layout_substitution.specs.Applied.{with_as_many_after}
use Rattle.layout_substitution.specs.Ligatures.{Joined, joined, ligature_over, following_charged}
use Rattle.layout_substitution.specs.declared.apply.Spot.{Spot}
use Rattle.layout_substitution.proofs.ligature.ligate.Goals as goal

pub returns-clause-made : goal.returns-clause-made
returns-clause-made c =
    c.put_over.ensures ∙ ap (ligature_over c.args.lookup.now c.args.made.now c.args.found c.args.spot.at) c.join-walk.ensures

pub returns-clause-next : goal.returns-clause-next
returns-clause-next c =
    let over = ligature_over c.args.lookup.now c.args.made.now c.args.found c.args.spot.at in
    let next : Spot → ℕ → Buffer → Option Spot = λ paid end b. Some (following_charged end (with_as_many_after c.args.left paid b)) in
    let all = joined c.args.lookup.now c.args.made.now c.args.found c.args.spot.at c.args.buffer.now in
    let paid = c.charge_merging-paid.result in
    ap (λ (s : Spot). Some s) c.with_left.ensures ∙ ap (next paid c.join-walk.result.at) c.put_over.ensures
    ∙ ap (λ (s : Joined). next paid s.walk.at (over s)) c.join-walk.ensures
    ∙ ap (λ (s : Spot). next s all.walk.at (over all)) c.charge_merging-paid.ensures
