use Rattle.std.proofs.Common.{◌≡◌, ℕ, Option, Some, ap, ◌∙◌}
use Rattle.shape_items.specs.Buffer.{Buffer}
use Rattle.arabic_fallback.specs.Ligating.{tried_at, tried_with}
use Rattle.arabic_fallback.specs.Ligatures.{found_in}
use Rattle.arabic_fallback.specs.Vain.{vain_marked}
use Rattle.arabic_fallback.specs.Work.{search_charged}
use Rattle.arabic_fallback.proofs.ligating.search_at.Goals as goal

pub returns-in-Some-clause-made : goal.returns-in-Some-clause-made
returns-in-Some-clause-made c =
    let rule = c.args.rule in
    let rows = c.args.rows.now in
    let at = c.args.at in
    let b = c.args.buffer.now in
    let is : Some c.in-Some.left ≡ search_charged rule rows b.items at b.max_ops = cc in
    c.try_found.ensures.made
    ∙ ap (λ (m : Buffer). tried_at at (found_in rule rows m.items at) (vain_marked rule rows at m)) c.set_max_ops.ensures
    ∙ ap (λ (left : Option ℕ). tried_with rule rows at b left) is
