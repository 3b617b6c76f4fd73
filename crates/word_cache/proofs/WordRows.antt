-- The rows of words that are found, and of those that go.
use Rattle.std.proofs.Common.{◌≡◌, ℕ, ◌+◌, ◌<◌, List, [], ◌∷◌, length, take, refl, ap, arith, inl, inr}
use Rattle.std.proofs.lemmas.List.{length-take}
use Rattle.word_cache.specs.Words.{Entry, entry_bytes, total, IsFront}
use Rattle.word_cache.specs.Worked.Words.{WorkedFronts, WorkedWords}

abbrev first_of : List ℕ → ℕ
first_of [] = 0
first_of (x ∷ xs) = x

differ : (x y : ℕ) → x ≡ y → x < y → ⊥
differ x y same less = absurd (omega arith)

few : (a b : Entry) → IsFront 100 (a ∷ b ∷ []) (a ∷ []) → entry_bytes a ≡ 40 → entry_bytes b ≡ 60 → ⊥
few a b front x y =
    let long : length (a ∷ []) ≡ length (take front.count (a ∷ b ∷ [])) = ap length front.is in
    let one : front.count ≡ 1 = omega (arith, long, length-take front.count (a ∷ b ∷ []), front.within) in
    let much = (front.most (omega (arith, one))).1 in
    let same : total (take (front.count + 1) (a ∷ b ∷ [])) ≡ total (a ∷ b ∷ []) = ap (λ k. total (take (k + 1) (a ∷ b ∷ []))) one in
    absurd (omega (arith, much, same))

none_stays : (a b : Entry) → IsFront 7 (a ∷ b ∷ []) [] → ⊥
none_stays a b front =
    let long : 0 ≡ length (take front.count (a ∷ b ∷ [])) = ap length front.is in
    let none : front.count ≡ 0 = omega (arith, long, length-take front.count (a ∷ b ∷ []), front.within) in
    let one = (front.most (omega (arith, none))).0 in
    absurd (omega (arith, none, one))

fronts : (a b c : Entry) → entry_bytes a ≡ 40 → entry_bytes b ≡ 60 → entry_bytes c ≡ 10 → WorkedFronts a b c
fronts a b c x y z = record {
  all = record { count = 3; within = omega arith; is = refl; fit = inr (omega arith); most = λ lt. absurd (omega arith) };
  one_less = record { count = 2; within = omega arith; is = refl; fit = inr (omega arith); most = λ lt. (omega arith, omega arith) };
  none_after_one_that_goes = record { count = 1; within = omega arith; is = refl; fit = inl (omega arith); most = λ lt. (omega arith, omega arith) };
  first_alone = record { count = 1; within = omega arith; is = refl; fit = inl (omega arith); most = λ lt. (omega arith, omega arith) };
  not_none = none_stays a b;
  not_too_few = λ front. few a b front x y;
  not_too_many = λ front. elim front.fit [
    | inl one ↦ let long : length (a ∷ b ∷ []) ≡ length (take front.count (a ∷ b ∷ [])) = ap length front.is in
        absurd (omega (arith, long, one, length-take front.count (a ∷ b ∷ [])))
    | inr le ↦ absurd (omega (arith, le))
  ];
}

pub worked_words : WorkedWords
worked_words = record {
  found = λ a b d. record {
    second = refl;
    by_the_other_plan = refl;
    longer = refl;
    none_moves = refl;
    has = inr (inl refl);
    has_not = λ has. elim has [
      | inl same ↦ absurd (differ 1 2 (ap first_of same) (omega arith))
      | inr none ↦ elim none [ ]
    ];
  };
  fronts = fronts;
  plans_apart = λ run other text also same. absurd (differ 1 2 (ap first_of same) (omega arith));
}
