-- Ten units spell five characters at least, so that the units further away change no context.
use Rattle.std.proofs.Common.{◌≡◌, ◌∙◌, ℕ, zero, suc, ◌+◌, ◌-◌, ◌*◌, ◌≤◌, ◌<◌, Bool, true, false, ◌&&◌, Some, List, [], ◌∷◌, ◌++◌, length, map, take, drop, cond, nat_le, refl, ap, sym, subst, arith}
use Rattle.std.proofs.lemmas.Bool.{and_parts}
use Rattle.std.proofs.lemmas.Bool.Decides.{nat_tests}
use Rattle.std.proofs.lemmas.List.{length-drop, length-take-le, take-append-drop, take_all}
use Rattle.std.specs.Char.Utf16.{utf16_chars, utf16_lossy_chars, is_high_surrogate, is_low_surrogate, surrogate_pair_char, lone_unit_char}
use Rattle.std.specs.Option.{unwrap_or}
use Rattle.utf16_text.specs.Utf16.{utf16_before, utf16_after}
use Rattle.utf16_text.proofs.UnitLemmas.{lone_char}

-- two units, by whether they are a pair
abbrev spelled : ℕ → ℕ → List ℕ → Bool → List ℕ
spelled u v us t = cond t (surrogate_pair_char u v ∷ utf16_lossy_chars us) (lone_char u ∷ utf16_lossy_chars (v ∷ us))

two_spell : (u v : ℕ) (us : List ℕ) (t : Bool) → (is_high_surrogate u && is_low_surrogate v) ≡ t
    → utf16_lossy_chars (u ∷ v ∷ us) ≡ spelled u v us t
unfolding utf16_chars
two_spell u v us true is =
    ap (λ t. map (λ o. unwrap_or o 0xFFFD) (cond t (Some (surrogate_pair_char u v) ∷ utf16_chars us) (lone_unit_char u ∷ utf16_chars (v ∷ us)))) is
two_spell u v us false is =
    ap (λ t. map (λ o. unwrap_or o 0xFFFD) (cond t (Some (surrogate_pair_char u v) ∷ utf16_chars us) (lone_unit_char u ∷ utf16_chars (v ∷ us)))) is

not_high : (v : ℕ) → is_low_surrogate v ≡ true → is_high_surrogate v ≡ false
not_high v low = grind (arith, nat_tests)

-- a low surrogate begins no pair
low_spells : (v : ℕ) (us : List ℕ) → is_low_surrogate v ≡ true → utf16_lossy_chars (v ∷ us) ≡ lone_char v ∷ utf16_lossy_chars us
unfolding utf16_chars
low_spells v [] low = refl
low_spells v (w ∷ us) low = two_spell v w us false (ap (λ t. t && is_low_surrogate w) (not_high v low))

half_two : (u v : ℕ) (us : List ℕ) (t : Bool) → length us ≤ 2 * length (utf16_lossy_chars us)
    → length (v ∷ us) ≤ 2 * length (utf16_lossy_chars (v ∷ us)) → length (u ∷ v ∷ us) ≤ 2 * length (spelled u v us t)
half_two u v us true rest _ = omega (arith, rest)
half_two u v us false _ rest = omega (arith, rest)

half : (us : List ℕ) → length us ≤ 2 * length (utf16_lossy_chars us)
unfolding utf16_chars
half [] = omega arith
half (u ∷ []) = omega arith
half (u ∷ v ∷ us) =
    subst (λ cs. length (u ∷ v ∷ us) ≤ 2 * length cs) (sym (two_spell u v us _ refl)) (half_two u v us _ (half us) (half (v ∷ us)))

-- the last five of more characters
last : List ℕ → List ℕ
last cs = drop (length cs - 5) cs

last_of_more : (c : ℕ) (cs : List ℕ) → 5 ≤ length cs → last (c ∷ cs) ≡ last cs
unfolding last
last_of_more c cs five = let more : length (c ∷ cs) - 5 ≡ suc (length cs - 5) = omega arith in ap (λ n. drop n (c ∷ cs)) more

five_from_ten : (us : List ℕ) → 9 ≤ length us → 5 ≤ length (utf16_lossy_chars us)
five_from_ten us nine = omega (arith, half us)

cut_two : (u v : ℕ) (ys : List ℕ) (t : Bool) → (is_high_surrogate u && is_low_surrogate v) ≡ t → 9 ≤ length ys
    → last (spelled u v ys t) ≡ last (utf16_lossy_chars (v ∷ ys))
cut_two u v ys true is nine =
    let low = (and_parts _ _ is).1 in
    let five = five_from_ten ys nine in
    last_of_more (surrogate_pair_char u v) (utf16_lossy_chars ys) five
    ∙ sym (ap last (low_spells v ys low) ∙ last_of_more (lone_char v) (utf16_lossy_chars ys) five)
cut_two u v ys false is nine = last_of_more (lone_char u) (utf16_lossy_chars (v ∷ ys)) (five_from_ten (v ∷ ys) (omega arith))

more_two : (u v : ℕ) (us : List ℕ) (t : Bool) (cs : List ℕ) → 9 ≤ length us → last (utf16_lossy_chars us) ≡ cs
    → last (utf16_lossy_chars (v ∷ us)) ≡ cs → last (spelled u v us t) ≡ cs
more_two u v us true cs nine rest _ = last_of_more (surrogate_pair_char u v) (utf16_lossy_chars us) (five_from_ten us nine) ∙ rest
more_two u v us false cs nine _ rest = last_of_more (lone_char u) (utf16_lossy_chars (v ∷ us)) (five_from_ten (v ∷ us) (omega arith)) ∙ rest

long_behind : (xs ys : List ℕ) → length ys ≤ length (xs ++ ys)
long_behind [] ys = omega arith
long_behind (x ∷ xs) ys = omega (arith, long_behind xs ys)

last_behind : (xs ys : List ℕ) → 10 ≤ length ys → last (utf16_lossy_chars (xs ++ ys)) ≡ last (utf16_lossy_chars ys)
last_behind [] ys ten = refl
last_behind (u ∷ []) [] ten = absurd (omega arith)
last_behind (u ∷ []) (v ∷ ys) ten = ap last (two_spell u v ys _ refl) ∙ cut_two u v ys _ refl (omega arith)
last_behind (u ∷ v ∷ xs) ys ten =
    ap last (two_spell u v (xs ++ ys) _ refl)
    ∙ more_two u v (xs ++ ys) _ _ (omega (arith, long_behind xs ys)) (last_behind xs ys ten) (last_behind (v ∷ xs) ys ten)

-- the last ten units, or all if they are fewer
pub before_by_ten : (us : List ℕ) (n : ℕ) → n ≡ length us - 10 → utf16_before (drop n us) ≡ utf16_before us
unfolding last
before_by_ten us zero is = refl
before_by_ten us (suc n) is =
    sym (ap last (ap utf16_lossy_chars (sym (take-append-drop (suc n) us)))
    ∙ last_behind (take (suc n) us) (drop (suc n) us) (omega (arith, length-drop (suc n) us)))

take_two : (n u v : ℕ) (us xs : List ℕ) (t : Bool) → take n (utf16_lossy_chars us) ≡ take n (utf16_lossy_chars xs)
    → take n (utf16_lossy_chars (v ∷ us)) ≡ take n (utf16_lossy_chars (v ∷ xs)) → take (suc n) (spelled u v us t) ≡ take (suc n) (spelled u v xs t)
take_two n u v us xs true rest _ = ap (λ cs. surrogate_pair_char u v ∷ cs) rest
take_two n u v us xs false _ rest = ap (λ cs. lone_char u ∷ cs) rest

first_before : (n : ℕ) (xs ys : List ℕ) → 2 * n ≤ length xs → take n (utf16_lossy_chars (xs ++ ys)) ≡ take n (utf16_lossy_chars xs)
first_before zero xs ys long = refl
first_before (suc n) [] ys long = absurd (omega arith)
first_before (suc n) (u ∷ []) ys long = absurd (omega arith)
first_before (suc n) (u ∷ v ∷ xs) ys long =
    ap (take (suc n)) (two_spell u v (xs ++ ys) _ refl)
    ∙ take_two n u v (xs ++ ys) xs _ (first_before n xs ys (omega arith)) (first_before n (v ∷ xs) ys (omega arith))
    ∙ sym (ap (take (suc n)) (two_spell u v xs _ refl))

by_ten : (us : List ℕ) (n : ℕ) → n ≤ length us → (n < 10 → length us ≤ n) → (t : Bool) → nat_le 10 n ≡ t → utf16_after (take n us) ≡ utf16_after us
by_ten us n within all true is =
    let ten : 10 ≤ n = grind (arith, nat_tests) in
    sym (ap (λ xs. take 5 (utf16_lossy_chars xs)) (sym (take-append-drop n us))
    ∙ first_before 5 (take n us) (drop n us) (omega (arith, length-take-le n us within)))
by_ten us n within all false is =
    let few : n < 10 = grind (arith, nat_tests) in
    ap (λ xs. take 5 (utf16_lossy_chars xs)) (take_all n us (all few))

-- the first ten units, or all if they are fewer
pub after_by_ten : (us : List ℕ) (n : ℕ) → n ≤ length us → (n < 10 → length us ≤ n) → utf16_after (take n us) ≡ utf16_after us
after_by_ten us n within all = by_ten us n within all (nat_le 10 n) refl
