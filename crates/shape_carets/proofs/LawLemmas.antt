-- One caret is an offset's, and one is the nearest; a click where a caret stands leads back to it.
use Rattle.std.proofs.Common.{◌≡◌, ◌≢◌, ℕ, zero, suc, ◌+◌, ◌<◌, ◌≤◌, ℤ, ◌≤ℤ◌, List, length, sym, ap, subst, ◌∙◌, arith, inl, inr}
use Rattle.std.proofs.lemmas.Bool.{cases_lt, cases_order}
use Rattle.std.proofs.lemmas.Int.{ints}
use Rattle.shape_carets.specs.Carets.{offset_at, x_at}
use Rattle.shape_carets.specs.Laws.{OffsetsRise, GoesOneWay}
use Rattle.shape_carets.specs.Places.{gap, IsPlaceOf, IsNearest, CaretStandsAt, OffsetIsNearest}
use Rattle.shape_carets.specs.declared.caret.Caret.{Caret}

module _ (carets : List Caret) where
  not_before : (offset a b : ℕ) → IsPlaceOf carets offset a → IsPlaceOf carets offset b → a < b → ⊥
  not_before offset a b is also lt =
      let within = also.within in
      let past = is.next_past (omega arith) in
      let low = also.none_past (a + 1) (omega arith) (omega arith) in
      absurd (omega arith)

  pub same_place : (offset a b : ℕ) → IsPlaceOf carets offset a → IsPlaceOf carets offset b → a ≡ b
  same_place offset a b is also =
      elim (cases_order a b) [
        | inl same ↦ same
        | inr (inl less) ↦ absurd (not_before offset a b is also less)
        | inr (inr more) ↦ absurd (not_before offset b a also is more)
      ]

  not_nearer : (x : ℤ) (a b : ℕ) → IsNearest carets x a → IsNearest carets x b → a < b → ⊥
  not_nearer x a b is also lt =
      let far = is.last b lt also.within in
      let near = also.none_nearer a lt in
      absurd (omega arith)

  pub same_nearest : (x : ℤ) (a b : ℕ) → IsNearest carets x a → IsNearest carets x b → a ≡ b
  same_nearest x a b is also =
      elim (cases_order a b) [
        | inl same ↦ same
        | inr (inl less) ↦ absurd (not_nearer x a b is also less)
        | inr (inr more) ↦ absurd (not_nearer x b a also is more)
      ]

  -- ---- and back

  up_to : OffsetsRise carets → (k j : ℕ) → k < length carets → j ≤ k → offset_at carets j ≤ offset_at carets k
  up_to rise zero j lt le = let here : j ≡ 0 = omega arith in subst (λ i. offset_at carets i ≤ offset_at carets 0) (sym here) (omega arith)
  up_to rise (suc k) j lt le =
      elim (cases_lt j (suc k)) [
        | inl less ↦ let low = up_to rise k j (omega arith) (omega arith) in let more = rise k lt in omega arith
        | inr ge ↦ let here : j ≡ suc k = omega arith in subst (λ i. offset_at carets i ≤ offset_at carets (suc k)) (sym here) (omega arith)
      ]

  own_place : OffsetsRise carets → (k : ℕ) → k < length carets → IsPlaceOf carets (offset_at carets k) k
  own_place rise k lt = record {
    within = lt;
    none_past = λ j some le. up_to rise k j lt le;
    next_past = λ more. let up = rise k (omega arith) in
        let next : suc k ≡ k + 1 = omega arith in subst (λ i. offset_at carets k < offset_at carets i) next up;
  }

  none_apart : (a : ℤ) → gap a a ≡ 0
  none_apart a = omega (arith, ints)

  apart : (a b : ℤ) → a ≢ b → 0 < gap a b
  apart a b differ = omega (arith, ints, differ)

  own_nearest : (k : ℕ) → k < length carets → ((j : ℕ) → k < j → j < length carets → x_at carets j ≢ x_at carets k)
      → IsNearest carets (x_at carets k) k
  own_nearest k lt differ = record {
    within = lt;
    none_nearer = λ j less. let none = none_apart (x_at carets k) in omega arith;
    last = λ j after within.
        let none = none_apart (x_at carets k) in
        let some = apart (x_at carets j) (x_at carets k) (differ j after within) in
        omega arith;
  }

  pub returns-to : (k offset : ℕ) (x : ℤ) → OffsetsRise carets → k < length carets
      → ((j : ℕ) → k < j → j < length carets → x_at carets j ≢ x_at carets k)
      → CaretStandsAt carets (offset_at carets k) x → OffsetIsNearest carets x offset → offset ≡ offset_at carets k
  returns-to k offset x rise lt differ (inl none) near = let empty = ap length none.0 in absurd (omega arith)
  returns-to k offset x rise lt differ (inr stands) (inl none) = let empty = ap length none.0 in absurd (omega arith)
  returns-to k offset x rise lt differ (inr stands) (inr near) =
      let there : stands.0 ≡ k = same_place (offset_at carets k) stands.0 k stands.1 (own_place rise k lt) in
      let at : x ≡ x_at carets k = stands.2 ∙ ap (x_at carets) there in
      let same : near.0 ≡ k = same_nearest (x_at carets k) near.0 k (subst (λ z. IsNearest carets z near.0) at near.1) (own_nearest k lt differ) in
      near.2 ∙ ap (offset_at carets) same

  right_of : ((k : ℕ) → suc k < length carets → x_at carets k ≤ℤ x_at carets (suc k)) → (j k : ℕ) → j < length carets → k ≤ j
      → x_at carets k ≤ℤ x_at carets j
  right_of goes zero k lt le = let here : k ≡ 0 = omega arith in subst (λ i. x_at carets i ≤ℤ x_at carets 0) (sym here) (omega (arith, ints))
  right_of goes (suc j) k lt le =
      elim (cases_lt k (suc j)) [
        | inl less ↦ let low = right_of goes j k (omega arith) (omega arith) in let more = goes j lt in omega (arith, ints)
        | inr ge ↦ let here : k ≡ suc j = omega arith in subst (λ i. x_at carets i ≤ℤ x_at carets (suc j)) (sym here) (omega (arith, ints))
      ]

  left_of : ((k : ℕ) → suc k < length carets → x_at carets (suc k) ≤ℤ x_at carets k) → (j k : ℕ) → j < length carets → k ≤ j
      → x_at carets j ≤ℤ x_at carets k
  left_of goes zero k lt le = let here : k ≡ 0 = omega arith in subst (λ i. x_at carets 0 ≤ℤ x_at carets i) (sym here) (omega (arith, ints))
  left_of goes (suc j) k lt le =
      elim (cases_lt k (suc j)) [
        | inl less ↦ let low = left_of goes j k (omega arith) (omega arith) in let more = goes j lt in omega (arith, ints)
        | inr ge ↦ let here : k ≡ suc j = omega arith in subst (λ i. x_at carets (suc j) ≤ℤ x_at carets i) (sym here) (omega (arith, ints))
      ]

  pub none_there : GoesOneWay carets → (k : ℕ) → suc k < length carets → x_at carets (suc k) ≢ x_at carets k
      → (j : ℕ) → k < j → j < length carets → x_at carets j ≢ x_at carets k
  none_there (inl right) k lt differ j after within = λ same.
      let one = right k lt in
      let rest = right_of right j (suc k) within (omega arith) in
      differ (omega (arith, ints, same))
  none_there (inr left) k lt differ j after within = λ same.
      let one = left k lt in
      let rest = left_of left j (suc k) within (omega arith) in
      differ (omega (arith, ints, same))
