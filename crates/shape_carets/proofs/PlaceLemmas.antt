-- The nearest of the first carets, and of one more.
use Rattle.std.proofs.Common.{◌≡◌, ℕ, ◌+◌, ◌<◌, ◌≤◌, ℤ, List, arith, inl, inr, subst, sym}
use Rattle.std.proofs.lemmas.Bool.{cases_lt, cases_order}
use Rattle.shape_carets.specs.Carets.{x_at}
use Rattle.shape_carets.specs.Places.{gap, IsNearestOf}
use Rattle.shape_carets.specs.declared.caret.Caret.{Caret}

module _ (carets : List Caret) (x : ℤ) (count place : ℕ) (near : IsNearestOf carets x count place) where
  no_less : (k : ℕ) → k < count → gap (x_at carets place) x ≤ gap (x_at carets k) x
  no_less k lt =
      elim (cases_order k place) [
        | inl same ↦ subst (λ j. gap (x_at carets place) x ≤ gap (x_at carets j) x) (sym same) (omega arith)
        | inr (inl before) ↦ near.none_nearer k before
        | inr (inr after) ↦ let far = near.last k after lt in omega arith
      ]

  pub nearest-next : gap (x_at carets count) x ≤ gap (x_at carets place) x → IsNearestOf carets x (count + 1) count
  nearest-next as_near = record {
    within = omega arith;
    none_nearer = λ k lt. let le = no_less k lt in omega arith;
    last = λ k after before. absurd (omega arith);
  }

  pub nearest-stays : (gap (x_at carets count) x ≤ gap (x_at carets place) x → ⊥) → IsNearestOf carets x (count + 1) place
  nearest-stays not_as_near = record {
    within = let lt = near.within in omega arith;
    none_nearer = near.none_nearer;
    last = λ k after before. elim (cases_lt k count) [
      | inl lt ↦ near.last k after lt
      | inr ge ↦ let here : count ≡ k = omega arith in
          subst (λ j. gap (x_at carets place) x < gap (x_at carets j) x) here (omega (arith, not_as_near))
    ];
  }
