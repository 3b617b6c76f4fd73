use Rattle.std.proofs.Common.{◌≡◌, ◌∙◌, ap, arith, length, replicate, rules, sym}
use Rattle.std.proofs.lemmas.Grind.{common_steps}
use Rattle.bidi.specs.Text.{levels_in}
use Rattle.bidi.proofs.LeftLemmas.{level_zero}
use Rattle.bidi.proofs.text.levels_in.Goals as goal

pub returns-then-are_left : goal.returns-then-are_left
returns-then-are_left c =
    let text = c.args.text.now in
    let classes = c.args.classes.now in
    let zeros : c.in_ok-levels.levels.items ≡ replicate (length text) 0 = first_of (search rules, grind (arith, common_steps)) in
    zeros ∙ sym (ap (λ b. levels_in b text classes) c.if-base-eq0.true ∙ level_zero text classes c.requires.same (sym c.are_left.ensures ∙ c.if-are_left.true))
