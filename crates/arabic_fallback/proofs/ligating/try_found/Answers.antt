use Rattle.std.proofs.Common.{◌≡◌, ℕ, ◌+◌, Option, Some, None, ap, ◌∙◌}
use Rattle.shape_items.specs.Buffer.{Buffer}
use Rattle.arabic_fallback.specs.Ligating.{Walked, ligature_put, tried_at}
use Rattle.arabic_fallback.specs.Ligatures.{found_in}
use Rattle.arabic_fallback.specs.Vain.{vain_marked}
use Rattle.arabic_fallback.specs.declared.ligatures.Found.{Found}
use Rattle.arabic_fallback.proofs.ligating.try_found.Goals as goal

pub returns-in-Some-clause-made : goal.returns-in-Some-clause-made
returns-in-Some-clause-made c =
    let at = c.args.at in
    let found = c.in-Some.found in
    let vain = vain_marked c.args.rule c.args.rows.now at c.args.buffer.now in
    let is : Some found ≡ found_in c.args.rule c.args.rows.now c.args.buffer.now.items at = cc in
    let walked : Buffer → Walked = λ b. record { buffer = b; next = found.last + 1 } in
    ap walked (c.put_ligature.ensures.made ∙ ap (ligature_put at found) c.mark_vain.ensures.made)
    ∙ ap (λ (o : Option Found). tried_at at o vain) is

pub returns-in-None-clause-made : goal.returns-in-None-clause-made
returns-in-None-clause-made c =
    let at = c.args.at in
    let vain = vain_marked c.args.rule c.args.rows.now at c.args.buffer.now in
    let is : None ≡ found_in c.args.rule c.args.rows.now c.args.buffer.now.items at = cc in
    let walked : Buffer → Walked = λ b. record { buffer = b; next = at + 1 } in
    ap walked c.mark_vain.ensures.made
    ∙ ap (λ (o : Option Found). tried_at at o vain) is
