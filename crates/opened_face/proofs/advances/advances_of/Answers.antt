use Rattle.std.proofs.Common.{FitsSigned, rules, ◌≡◌, ◌≤◌, ◌++◌, ℕ, ℤ, List, [], ◌∷◌, length, sym, ap, subst, ◌∙◌}
use Rattle.std.proofs.lemmas.Int.{to_z-of_z}
use Rattle.shape_font.specs.Face.{sized_h_advance}
use Rattle.shape_font.specs.Steps.{advance_steps}
use Rattle.opened_face.specs.Pages.{AreAdvances}
use Rattle.opened_face.specs.declared.advances.TheConstants.{MOST_STEPS}
use Rattle.opened_face.proofs.StepLemmas.{each_pushed, steps_kept}
use Rattle.opened_face.proofs.advances.advances_of.Goals as goal
use mir.Syntax.{w32}

pub loop-number-preserved : goal.loop-number-preserved
loop-number-preserved c =
    let few : c.advance_steps-steps.result ≤ c.loop-number.left = search rules in
    let is : c.advance_steps-steps.result ≡ advance_steps c.args.face.now c.loop-number.number = search rules in
    let so = c.loop-number.invariant.steps in
    let f = c.args.face.now in
    let xs = c.loop-number.advances.items in
    let x = c.glyph_h_advance.result in
    let of : ℕ → ℤ = λ g. sized_h_advance f (record { 0 = g }) in
    let last : x ≡ of (length xs) = c.glyph_h_advance.ensures
    ∙ ap of (c.from-in-loop-number.ensures ∙ sym c.loop-number.invariant.so_far) in
    let fits : FitsSigned w32 x = search rules in
    let made : c.push.new.self.items ≡ xs ++ x ∷ [] = c.in_ok-push.ensures.items ∙ ap (λ n. xs ++ n ∷ []) (to_z-of_z w32 x fits) in
    record {
      so_far = search rules;
      ok = subst (λ (all : List ℤ). AreAdvances f all) (sym made) (each_pushed of xs x c.loop-number.invariant.ok last);
      steps = steps_kept c.args.face.now c.loop-number.number c.loop-number.left c.advance_steps-steps.result MOST_STEPS so few is;
    }
