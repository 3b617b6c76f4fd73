-- Before an item that is no mark a text may be cut, and its parts settled and recomposed each by itself.
use Rattle.std.proofs.Common.{◌≡◌, ℕ, true, false, Bool, ◌==◌, List, [], ◌∷◌, ◌++◌, Option, refl, sym, ap, subst, ◌∙◌, inl, inr}
use Rattle.std.proofs.lemmas.Bool.{both_ways}
use Rattle.canonical_form.specs.Recompose.{recomposed}
use Rattle.canonical_form.specs.Runs.{AreRunsSettled}
use Rattle.canonical_form.proofs.Recomposing.RecomposeLemmas.{recomposed_from-append}
use Rattle.canonical_form.proofs.Ordering.RunLemmas.{cases_item, AreRunsSettled-append, Swaps-nil, IsSettled-swaps}

module _ {A : Type 0} (ccc : A → ℕ) (limit : ℕ) (blocks : List A → A → Bool) (is_mark : A → Bool) (compose : A → A → Option A) where
  -- a starter in front stays in front
  first_stays : (c : A) (rest new : List A) → (ccc c == 0) ≡ true → AreRunsSettled ccc limit [] (c ∷ rest) new
      → (later : List A) × (new ≡ c ∷ later)
  first_stays c rest new starts h =
      elim (cases_item ccc limit [] c rest new h) [
        | inl (start, parts) ↦ (
          parts.rest,
          parts.is ∙ ap (λ run. run ++ c ∷ parts.rest)
              (Swaps-nil ccc limit (IsSettled-swaps ccc limit [] parts.run parts.settled)),
        )
        | inr (mark, later) ↦ absurd (both_ways _ mark starts)
      ]

  recomposed-append : (xs : List A) (c : A) (ys : List A) → is_mark c ≡ false → (ccc c == 0) ≡ true
      → recomposed ccc blocks is_mark compose (xs ++ c ∷ ys)
      ≡ recomposed ccc blocks is_mark compose xs ++ recomposed ccc blocks is_mark compose (c ∷ ys)
  recomposed-append [] c ys unmarked start = refl
  recomposed-append (x ∷ xs) c ys unmarked start = recomposed_from-append ccc blocks is_mark compose c ys unmarked start x [] xs

  pub cut : (front back : List A) (c : A) (rest new new' : List A) → back ≡ c ∷ rest → is_mark c ≡ false → (ccc c == 0) ≡ true
      → AreRunsSettled ccc limit [] front new → AreRunsSettled ccc limit [] back new'
      → AreRunsSettled ccc limit [] (front ++ back) (new ++ new')
      × (recomposed ccc blocks is_mark compose (new ++ new')
      ≡ recomposed ccc blocks is_mark compose new ++ recomposed ccc blocks is_mark compose new')
  cut front back c rest new new' begins unmarked start settled_front settled_back =
      let at = subst (λ l. AreRunsSettled ccc limit [] l new') begins settled_back in
      let first = first_stays c rest new' start at in (
        subst (λ l. AreRunsSettled ccc limit [] (front ++ l) (new ++ new')) (sym begins)
            (AreRunsSettled-append ccc limit [] front new c rest new' start settled_front at),
        subst (λ l. recomposed ccc blocks is_mark compose (new ++ l)
            ≡ recomposed ccc blocks is_mark compose new ++ recomposed ccc blocks is_mark compose l)
            (sym first.1) (recomposed-append new c first.0 unmarked start),
      )
