-- Carets that stand: their offsets rise.
use Rattle.std.proofs.Common.{◌≡◌, zero, suc, true, List, [], ◌∷◌, arith, inl, inr}
use Rattle.std.proofs.lemmas.Bool.{cases_Bool}
use Rattle.std.proofs.lemmas.Bool.Decides.{nat_tests}
use Rattle.shape_carets.specs.Laws.{OffsetsRise}
use Rattle.shape_carets.specs.declared.caret.Caret.{Caret}
use Rattle.line_carets.specs.LineCarets.{is_before, settled}

rise_on : (caret : Caret) (carets : List Caret) → is_before caret carets ≡ true → OffsetsRise carets → OffsetsRise (caret ∷ carets)
rise_on caret [] before rise zero lt = absurd (omega arith)
rise_on caret [] before rise (suc k) lt = absurd (omega arith)
rise_on caret (next ∷ carets) before rise zero lt = grind (arith, nat_tests, before)
rise_on caret (next ∷ carets) before rise (suc k) lt = rise k (omega arith)

pub settled-rise : (carets : List Caret) → OffsetsRise (settled carets)
settled-rise [] = λ k lt. absurd (omega (arith, lt))
settled-rise (caret ∷ carets) =
    elim (cases_Bool (is_before caret (settled carets))) [
      | inl before ↦ rw before (rise_on caret (settled carets) before (settled-rise carets))
      | inr past ↦ rw past (settled-rise carets)
    ]
