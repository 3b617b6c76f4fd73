-- one advance more, and its steps
use Rattle.std.proofs.Common.{◌≡◌, ◌≤◌, ◌<◌, ◌+◌, ◌-◌, ◌++◌, ℕ, suc, ℤ, pos, Bool, true, false, List, [], ◌∷◌, length, nat_lt, slice_index_or, refl, sym, ap, subst, ◌∙◌, arith}
use Rattle.std.proofs.Math.Seq.{get_or-append_seam}
use Rattle.std.proofs.lemmas.Bool.Decides.{nat_tests}
use Rattle.std.proofs.lemmas.List.{get_or_append_left, length-append}
use Rattle.shape_font.specs.Steps.{advance_steps}
use Rattle.shape_font.specs.declared.face.FontFace.{FontFace}
use Rattle.opened_face.specs.Pages.{steps_below}

pub steps_next : (f : FontFace) (n : ℕ) → steps_below f (n + 1) ≡ steps_below f n + advance_steps f n
steps_next f n =
    let s : n + 1 ≡ suc n = omega arith in
    rw s refl

kept : (before after left steps total : ℕ) → before + left ≡ total → steps ≤ left → after ≡ before + steps → after + (left - steps) ≡ total
kept before after left steps total so few is = omega (arith, so, few, is)

pub steps_kept : (f : FontFace) (n left steps total : ℕ) → steps_below f n + left ≡ total → steps ≤ left → steps ≡ advance_steps f n
    → steps_below f (n + 1) + (left - steps) ≡ total
steps_kept f n left steps total so few is =
    kept (steps_below f n) (steps_below f (n + 1)) left steps total so few (steps_next f n ∙ ap (λ (k : ℕ). steps_below f n + k) (sym is))

-- what each of some numbers is, one more is, too
pub each_pushed : (of : ℕ → ℤ) (xs : List ℤ) (x : ℤ) → ((g : ℕ) → g < length xs → slice_index_or xs g (pos 0) ≡ of g) → x ≡ of (length xs)
    → (g : ℕ) → g < length (xs ++ x ∷ []) → slice_index_or (xs ++ x ∷ []) g (pos 0) ≡ of g
each_pushed of xs x before last g inside = by_place (nat_lt g (length xs)) refl
  where
    by_place : (t : Bool) → nat_lt g (length xs) ≡ t → slice_index_or (xs ++ x ∷ []) g (pos 0) ≡ of g
    by_place true is =
        let below : g < length xs = grind (arith, nat_tests, is) in
        get_or_append_left xs (x ∷ []) (pos 0) g below ∙ before g below
    by_place false is =
        let len : length (xs ++ x ∷ []) ≡ length xs + 1 = length-append xs (x ∷ []) in
        let same : length xs ≡ g = grind (arith, nat_tests, is, inside, len) in
        subst (λ k. slice_index_or (xs ++ x ∷ []) k (pos 0) ≡ of k) same (get_or-append_seam xs x [] (pos 0) ∙ last)
