-- Full: any number of steps from the height on gives it, it goes along a split, and it keeps nonzero ccc.
use Rattle.std.proofs.Common.{◌≡◌, ℕ, zero, suc, ◌<◌, ◌≤◌, ◌⊎◌, ◌==◌, List, [], ◌∷◌, ◌++◌, Option, Some, None, flat_map, refl, sym, ap, subst, ◌∙◌, arith, inl, inr}
use Rattle.std.proofs.lemmas.Bool.{cases_Bool}
use Rattle.std.proofs.lemmas.Bool.Decides.{nat_tests}
use Rattle.std.specs.List.{AllByRecursion}
use Rattle.std.specs.Option.{option_map_or}
use Rattle.canonical_form.proofs.Lists.EveryLemmas.{append_all}
use Rattle.canonical_form.specs.Chain.{FallsAlong, kept_part, full_within, full, full_text, IsFull, stays, splits_into}
use Rattle.canonical_form.specs.Decompositions.{Decompositions}
use Rattle.canonical_form.specs.SplitsFall.{SplitsFall}

pub kept_part_zero : (b : ℕ) → b ≡ 0 → kept_part b ≡ []
kept_part_zero b e = grind (arith, nat_tests)

-- one step of Full, where `rest` gives that of a first part
abbrev step : (ℕ → List ℕ) → ℕ → Option (ℕ × ℕ) → List ℕ
step rest c o = option_map_or (λ parts. rest parts.0 ++ kept_part parts.1) o (c ∷ [])

step-same : (f g : ℕ → List ℕ) (c : ℕ) (o : Option (ℕ × ℕ)) → ((a b : ℕ) → o ≡ Some (a, b) → f a ≡ g a) → step f c o ≡ step g c o
step-same f g c None h = refl
step-same f g c (Some p) h = ap (λ l. l ++ kept_part p.1) (h p.0 p.1 refl)

pub kept_part_all : (P : ℕ → Type 0) (b : ℕ) → (b ≡ 0) ⊎ P b → AllByRecursion P (kept_part b)
kept_part_all P b h =
    elim (cases_Bool (b == 0)) [
      | inl none ↦ rw none tt
      | inr some ↦ rw some (elim h [ inl null ↦ absurd (grind (arith, nat_tests)) | inr holds ↦ (holds, tt) ])
    ]

module _ (D : Decompositions) (falling : FallsAlong D.split D.height) where
  at_height_zero : (c : ℕ) → D.height c ≤ 0 → D.split c ≡ None
  at_height_zero c low = go (D.split c) refl
    where
      go : (o : Option (ℕ × ℕ)) → D.split c ≡ o → D.split c ≡ None
      go None e = e
      go (Some p) e = absurd (omega (arith, falling.falls c p.0 p.1 e))

  -- any number of steps from the height on gives the same list
  pub full_within-any : (n m c : ℕ) → D.height c ≤ n → D.height c ≤ m → full_within D.split n c ≡ full_within D.split m c
  full_within-any zero zero c low_n low_m = refl
  full_within-any zero (suc m) c low_n low_m = sym (ap (step (full_within D.split m) c) (at_height_zero c low_n))
  full_within-any (suc n) zero c low_n low_m = ap (step (full_within D.split n) c) (at_height_zero c low_m)
  full_within-any (suc n) (suc m) c low_n low_m =
      step-same (full_within D.split n) (full_within D.split m) c (D.split c)
      (λ a b e. let falls = falling.falls c a b e in full_within-any n m a (omega arith) (omega arith))

  -- Full of what doesn't split
  pub full-stays : (c : ℕ) → D.split c ≡ None → full D c ≡ c ∷ []
  unfolding full
  full-stays c e = go (D.height c)
    where
      go : (n : ℕ) → full_within D.split n c ≡ c ∷ []
      go zero = refl
      go (suc n) = ap (step (full_within D.split n) c) e

  -- Full of what splits into a and b
  pub full-splits : (c a b : ℕ) → D.split c ≡ Some (a, b) → full D c ≡ full D a ++ kept_part b
  unfolding full
  full-splits c a b e =
      let falls = falling.falls c a b e in
      full_within-any (D.height c) (suc (D.height c)) c (omega arith) (omega arith)
      ∙ ap (step (full_within D.split (D.height c)) c) e
      ∙ ap (λ l. l ++ kept_part b) (full_within-any (D.height c) (D.height a) a (omega arith) (omega arith))

-- the two rules give Full and nothing else
pub IsFull-full : (D : Decompositions) → FallsAlong D.split D.height → {c : ℕ} {xs : List ℕ} → IsFull D.split c xs → xs ≡ full D c
IsFull-full D falling (stays e) = sym (full-stays D falling _ e)
IsFull-full D falling (splits_into {b = b} e inner) =
    ap (λ xs. xs ++ kept_part b) (IsFull-full D falling inner) ∙ sym (full-splits D falling _ _ _ e)

module _ (D : Decompositions) (lawful : SplitsFall D) where
  -- a second part is its own Full
  pub full_text-kept_part : (c a b : ℕ) → D.split c ≡ Some (a, b) → full_text D (kept_part b) ≡ kept_part b
  unfolding full_text
  full_text-kept_part c a b e =
      elim (lawful.second_is_last c a b e) [
        | inl none ↦ ap (λ l. flat_map (full D) l) (kept_part_zero b none) ∙ sym (kept_part_zero b none)
        | inr last ↦
            elim (cases_Bool (b == 0)) [
              | inl none ↦ rw none
              | inr some ↦ rw some (ap (λ l. l ++ []) (full-stays D lawful.height_falls b last))
            ]
      ]

  -- Full of a mark has its ccc throughout
  ccc_within : (n c k : ℕ) → D.height c ≤ n → 0 < D.ccc c → D.ccc c ≡ k → AllByRecursion (λ d. D.ccc d ≡ k) (full D c)
  ccc_within zero c k low mark same =
      subst (AllByRecursion (λ d. D.ccc d ≡ k)) (sym
      (full-stays D lawful.height_falls c (at_height_zero D lawful.height_falls c low))) (same, tt)
  ccc_within (suc n) c k low mark same = go (D.split c) refl (λ a. ccc_within n a k)
    where
      go : (o : Option (ℕ × ℕ)) → D.split c ≡ o
          → ((a : ℕ) → D.height a ≤ n → 0 < D.ccc a → D.ccc a ≡ k → AllByRecursion (λ d. D.ccc d ≡ k) (full D a))
          → AllByRecursion (λ d. D.ccc d ≡ k) (full D c)
      go None last later = subst (AllByRecursion (λ d. D.ccc d ≡ k)) (sym (full-stays D lawful.height_falls c last)) (same, tt)
      go (Some p) splits later =
          let falls = lawful.height_falls.falls c p.0 p.1 splits in
          let first = lawful.first_ccc c p.0 p.1 (λ e. omega arith) splits in
          let other : (p.1 ≡ 0) ⊎ (D.ccc p.1 ≡ k) =
          elim (lawful.second_ccc c p.0 p.1 (λ e. omega arith) splits) [ inl none ↦ inl none | inr b ↦ inr (b ∙ same) ] in
          subst (AllByRecursion (λ d. D.ccc d ≡ k)) (sym (full-splits D lawful.height_falls c p.0 p.1 splits))
          (append_all (λ d. D.ccc d ≡ k) _ _ (later p.0 (omega arith) (omega arith) (first ∙ same))
          (kept_part_all (λ d. D.ccc d ≡ k) p.1 other))

  pub full-ccc : (c : ℕ) → 0 < D.ccc c → AllByRecursion (λ d. D.ccc d ≡ D.ccc c) (full D c)
  full-ccc c mark = ccc_within (D.height c) c (D.ccc c) (omega arith) mark refl

  -- nothing in Full splits
  whole_within : (n c : ℕ) → D.height c ≤ n → AllByRecursion (λ d. D.split d ≡ None) (full D c)
  whole_within zero c low =
      let last = at_height_zero D lawful.height_falls c low in subst (AllByRecursion (λ d. D.split d ≡ None))
      (sym (full-stays D lawful.height_falls c last)) (last, tt)
  whole_within (suc n) c low = go (D.split c) refl (λ a. whole_within n a)
    where
      go : (o : Option (ℕ × ℕ)) → D.split c ≡ o → ((a : ℕ) → D.height a ≤ n → AllByRecursion (λ d. D.split d ≡ None) (full D a))
          → AllByRecursion (λ d. D.split d ≡ None) (full D c)
      go None last later =
          subst (AllByRecursion (λ d. D.split d ≡ None)) (sym (full-stays D lawful.height_falls c last)) (last, tt)
      go (Some p) splits later =
          let falls = lawful.height_falls.falls c p.0 p.1 splits in
          subst (AllByRecursion (λ d. D.split d ≡ None)) (sym (full-splits D lawful.height_falls c p.0 p.1 splits))
          (append_all (λ d. D.split d ≡ None) _ _ (later p.0 (omega arith))
          (kept_part_all (λ d. D.split d ≡ None) p.1 (lawful.second_is_last c p.0 p.1 splits)))

  pub full-whole : (c : ℕ) → AllByRecursion (λ d. D.split d ≡ None) (full D c)
  full-whole c = whole_within (D.height c) c (omega arith)
