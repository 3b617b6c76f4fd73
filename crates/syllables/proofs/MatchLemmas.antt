-- A pattern matches a character and a text after it as what it leaves behind the character matches the text.
use Rattle.std.proofs.Common.{◌≡◌, ℕ, suc, ◌==◌, ◌&&◌, ◌||◌, Bool, true, false, if◌then◌else◌, ◌⊎◌, inl, inr, List, [], ◌∷◌, ◌++◌, length, drop, get_or, refl, sym, ap, subst, append_assoc, arith}
use Rattle.std.proofs.lemmas.Bool.Decides.{nat_tests}
use Rattle.std.proofs.lemmas.Bool.{both_ways}
use Rattle.syllables.specs.Pattern.{Pattern, Nothing, Empty, One, Then, Or, Star, is_in, Rounds, no_round, one_more, Matches}
use Rattle.syllables.specs.Derivatives.{nullable, same_set, same, offers, is_nothing, add, either, seq, deriv}

-- ---- tests and lists

pub differ : false ≡ true → ⊥
differ e = both_ways false refl e

pub both : (a b : Bool) → (a && b) ≡ true → (a ≡ true) × (b ≡ true)
both true b e = (refl, e)
both false b e = absurd (differ e)

pub one_of : (a b : Bool) → (a || b) ≡ true → (a ≡ true) ⊎ (b ≡ true)
one_of true b e = inl refl
one_of false b e = inr e

either_test : (a b : Bool) → (a ≡ true) ⊎ (b ≡ true) → (a || b) ≡ true
either_test true b e = refl
either_test false b e = elim e [ inl a ↦ absurd (differ a) | inr b' ↦ b' ]

pub same_number : (x y : ℕ) → (x == y) ≡ true → x ≡ y
same_number x y e = grind (arith, nat_tests)

tail_is : (x y : ℕ) (xs ys : List ℕ) → x ∷ xs ≡ y ∷ ys → xs ≡ ys
tail_is x y xs ys e = ap (drop 1) e

head_is : (x y : ℕ) (xs ys : List ℕ) → x ∷ xs ≡ y ∷ ys → x ≡ y
head_is x y xs ys e = ap (λ l. get_or l 0 0) e

pub not_empty : (x : ℕ) (xs : List ℕ) → [] ≡ x ∷ xs → ⊥
not_empty x xs e = let h : 0 ≡ suc (length xs) = ap length e in omega arith

pub nothing-is : (p : Pattern) → is_nothing p ≡ true → p ≡ Nothing
nothing-is Nothing e = refl
nothing-is Empty e = absurd (differ e)
nothing-is (One s) e = absurd (differ e)
nothing-is (Then a b) e = absurd (differ e)
nothing-is (Or a b) e = absurd (differ e)
nothing-is (Star a) e = absurd (differ e)

-- ---- patterns that are written alike are the same

set-is : (s t : List ℕ) → same_set s t ≡ true → s ≡ t
set-is [] [] e = refl
set-is [] (y ∷ ys) e = absurd (differ e)
set-is (x ∷ xs) [] e = absurd (differ e)
set-is (x ∷ xs) (y ∷ ys) e =
    let h = both (x == y) (same_set xs ys) e in
    let i : x ≡ y = same_number x y h.0 in
    let j : xs ≡ ys = set-is xs ys h.1 in cc

pub same-is : (p q : Pattern) → same p q ≡ true → p ≡ q
same-is Nothing Nothing e = refl
same-is Empty Empty e = refl
same-is (One s) (One t) e = ap One (set-is s t e)
same-is (Then a b) (Then c d) e =
    let h = both (same a c) (same b d) e in
    let i : a ≡ c = same-is a c h.0 in
    let j : b ≡ d = same-is b d h.1 in cc
same-is (Or a b) (Or c d) e =
    let h = both (same a c) (same b d) e in
    let i : a ≡ c = same-is a c h.0 in
    let j : b ≡ d = same-is b d h.1 in cc
same-is (Star a) (Star b) e = ap Star (same-is a b e)
same-is _ _ e = absurd (differ e)

-- ---- the simplifying constructors

as_same : (p q : Pattern) (xs : List ℕ) → same p q ≡ true → Matches p xs → Matches q xs
as_same p q xs e m = subst (λ r. Matches r xs) (same-is p q e) m

offers-of : (p q : Pattern) (xs : List ℕ) → offers p q ≡ true → Matches p xs → Matches q xs
offers-of p (Or a b) xs e m = elim (one_of (offers p a) (offers p b) e) [
  | inl f ↦ inl (offers-of p a xs f m)
  | inr g ↦ inr (offers-of p b xs g m)
]
offers-of p Nothing xs e m = as_same p Nothing xs e m
offers-of p Empty xs e m = as_same p Empty xs e m
offers-of p (One s) xs e m = as_same p (One s) xs e m
offers-of p (Then a b) xs e m = as_same p (Then a b) xs e m
offers-of p (Star a) xs e m = as_same p (Star a) xs e m

add_rest-to : (p q : Pattern) (xs : List ℕ) (o : Bool) → Matches (if o then q else Or p q) xs → Matches p xs ⊎ Matches q xs
add_rest-to p q xs true m = inr m
add_rest-to p q xs false m = m

add_all-to : (p q : Pattern) (xs : List ℕ) (n : Bool)
    → Matches (if n then p else (if offers p q then q else Or p q)) xs → Matches p xs ⊎ Matches q xs
add_all-to p q xs true m = inl m
add_all-to p q xs false m = add_rest-to p q xs (offers p q) m

add-to : (p q : Pattern) (xs : List ℕ) → Matches (add p q) xs → Matches p xs ⊎ Matches q xs
add-to p q xs m = add_all-to p q xs (is_nothing q) m

add_rest-of : (p q : Pattern) (xs : List ℕ) (o : Bool) → offers p q ≡ o → Matches p xs ⊎ Matches q xs
    → Matches (if o then q else Or p q) xs
add_rest-of p q xs true e m = elim m [ inl mp ↦ offers-of p q xs e mp | inr mq ↦ mq ]
add_rest-of p q xs false e m = m

add_all-of : (p q : Pattern) (xs : List ℕ) (n : Bool) → is_nothing q ≡ n → Matches p xs ⊎ Matches q xs
    → Matches (if n then p else (if offers p q then q else Or p q)) xs
add_all-of p q xs true e m = elim m [ inl mp ↦ mp | inr mq ↦ absurd (subst (λ r. Matches r xs) (nothing-is q e) mq) ]
add_all-of p q xs false e m = add_rest-of p q xs (offers p q) refl m

add-of : (p q : Pattern) (xs : List ℕ) → Matches p xs ⊎ Matches q xs → Matches (add p q) xs
add-of p q xs m = add_all-of p q xs (is_nothing q) refl m

pub either-to : (p q : Pattern) (xs : List ℕ) → Matches (either p q) xs → Matches p xs ⊎ Matches q xs
either-to Nothing q xs m = inr m
either-to (Or a b) q xs m = elim (either-to a (either b q) xs m) [
  | inl ma ↦ inl (inl ma)
  | inr rest ↦ elim (either-to b q xs rest) [ inl mb ↦ inl (inr mb) | inr mq ↦ inr mq ]
]
either-to p q xs m = add-to p q xs m

pub either-of : (p q : Pattern) (xs : List ℕ) → Matches p xs ⊎ Matches q xs → Matches (either p q) xs
either-of Nothing q xs m = elim m [ inl none ↦ absurd none | inr mq ↦ mq ]
either-of (Or a b) q xs m = either-of a (either b q) xs (elim m [
  | inl ab ↦ elim ab [ inl ma ↦ inl ma | inr mb ↦ inr (either-of b q xs (inl mb)) ]
  | inr mq ↦ inr (either-of b q xs (inr mq))
])
either-of p q xs m = add-of p q xs m

-- one text after another is a list appended to another
turn : (us bs cs xs : List ℕ) → xs ≡ us ++ (bs ++ cs) → xs ≡ (us ++ bs) ++ cs
turn us bs cs xs e = rw append_assoc e

turn_back : (us bs cs xs : List ℕ) → xs ≡ (us ++ bs) ++ cs → xs ≡ us ++ (bs ++ cs)
turn_back us bs cs xs e = rw (← append_assoc us bs cs) e

after : (zs xs : List ℕ) (us bs : List ℕ) → zs ≡ bs → xs ≡ us ++ zs → xs ≡ us ++ bs
after zs xs us bs e f = subst (λ w. xs ≡ us ++ w) e f

before : (ys xs : List ℕ) (us bs : List ℕ) → ys ≡ us → xs ≡ ys ++ bs → xs ≡ us ++ bs
before ys xs us bs e f = subst (λ w. xs ≡ w ++ bs) e f

pub seq-to : (p q : Pattern) (xs : List ℕ) → Matches (seq p q) xs → Matches (Then p q) xs
seq-to Nothing q xs m = absurd m
seq-to Empty q xs m = ([], xs, refl, m, refl)
seq-to (Then a b) q xs m =
    let (ys, zs, ma, rest, e) = m in
    let (us, vs, mb, mq, f) = seq-to b q zs rest in
    (ys ++ us, vs, (ys, us, ma, mb, refl), mq, turn ys us vs xs (after zs xs ys (us ++ vs) f e))
seq-to (Or a b) q xs m = elim (either-to (seq a q) (seq b q) xs m) [
  | inl l ↦ let (ys, zs, ma, mq, e) = seq-to a q xs l in (ys, zs, inl ma, mq, e)
  | inr r ↦ let (ys, zs, mb, mq, e) = seq-to b q xs r in (ys, zs, inr mb, mq, e)
]
seq-to (One s) q xs m = m
seq-to (Star a) q xs m = m

pub seq-of : (p q : Pattern) (xs : List ℕ) → Matches (Then p q) xs → Matches (seq p q) xs
seq-of Nothing q xs m = let (ys, zs, none, mq, e) = m in absurd none
seq-of Empty q xs m =
    let (ys, zs, mp, mq, e) = m in
    subst (λ w. Matches q w) (sym (before ys xs [] zs mp e)) mq
seq-of (Then a b) q xs m =
    let (ys, zs, mab, mq, e) = m in
    let (us, vs, ma, mb, f) = mab in
    (us, vs ++ zs, ma, seq-of b q (vs ++ zs) (vs, zs, mb, mq, refl), turn_back us vs zs xs (before ys xs (us ++ vs) zs f e))
seq-of (Or a b) q xs m =
    let (ys, zs, mab, mq, e) = m in
    elim mab [
      | inl ma ↦ either-of (seq a q) (seq b q) xs (inl (seq-of a q xs (ys, zs, ma, mq, e)))
      | inr mb ↦ either-of (seq a q) (seq b q) xs (inr (seq-of b q xs (ys, zs, mb, mq, e)))
    ]
seq-of (One s) q xs m = m
seq-of (Star a) q xs m = m

-- ---- the empty text

pub null-to : (p : Pattern) → nullable p ≡ true → Matches p []
null-to Nothing e = absurd (differ e)
null-to Empty e = refl
null-to (One s) e = absurd (differ e)
null-to (Then p q) e = let h = both (nullable p) (nullable q) e in ([], [], null-to p h.0, null-to q h.1, refl)
null-to (Or p q) e = elim (one_of (nullable p) (nullable q) e) [ inl f ↦ inl (null-to p f) | inr g ↦ inr (null-to q g) ]
null-to (Star p) e = no_round

first_empty : (ys zs : List ℕ) → [] ≡ ys ++ zs → [] ≡ ys
first_empty [] zs e = refl
first_empty (y ∷ ys) zs e = absurd (not_empty y (ys ++ zs) e)

last_empty : (ys zs : List ℕ) → [] ≡ ys ++ zs → [] ≡ zs
last_empty [] zs e = e
last_empty (y ∷ ys) zs e = absurd (not_empty y (ys ++ zs) e)

and_test : (a b : Bool) → a ≡ true → b ≡ true → (a && b) ≡ true
and_test a b e f = rw (e, f) refl

pub null-of : (p : Pattern) → Matches p [] → nullable p ≡ true
null-of Nothing m = absurd m
null-of Empty m = refl
null-of (One s) m = let (c, h, e) = m in absurd (not_empty c [] e)
null-of (Then p q) m =
    let (ys, zs, mp, mq, e) = m in
    and_test (nullable p) (nullable q)
    (null-of p (subst (λ w. Matches p w) (sym (first_empty ys zs e)) mp))
    (null-of q (subst (λ w. Matches q w) (sym (last_empty ys zs e)) mq))
null-of (Or p q) m = either_test (nullable p) (nullable q) (elim m [ inl mp ↦ inl (null-of p mp) | inr mq ↦ inr (null-of q mq) ])
null-of (Star p) m = refl

-- ---- a character and a text after it

one-to : (c : ℕ) (set : List ℕ) (xs : List ℕ) (b : Bool) → is_in c set ≡ b → Matches (if b then Empty else Nothing) xs
    → Matches (One set) (c ∷ xs)
one-to c set xs true e m = (c, e, ap (λ w. c ∷ w) m)
one-to c set xs false e m = absurd m

one-of : (c : ℕ) (set : List ℕ) (xs : List ℕ) (b : Bool) → is_in c set ≡ b → is_in c set ≡ true → xs ≡ []
    → Matches (if b then Empty else Nothing) xs
one-of c set xs true e h f = f
one-of c set xs false e h f = absurd (both_ways (is_in c set) e h)

-- the first round that reads a character
first_round : (P : List ℕ → Type 0) (ws : List ℕ) → Rounds P ws → (c : ℕ) (xs : List ℕ) → ws ≡ c ∷ xs
    → (us : List ℕ) × (vs : List ℕ) × P (c ∷ us) × Rounds P vs × (xs ≡ us ++ vs)
first_round P _ no_round c xs e = absurd (not_empty c xs e)
first_round P _ (one_more [] ys p rest) c xs e = first_round P ys rest c xs e
first_round P _ (one_more (x ∷ us) ys p rest) c xs e =
    (us, ys, subst (λ n. P (n ∷ us)) (head_is x c (us ++ ys) xs e) p, rest, sym (tail_is x c (us ++ ys) xs e))

then-to : (p q : Pattern) (c : ℕ) (xs : List ℕ) → ((ys : List ℕ) → Matches (deriv c p) ys → Matches p (c ∷ ys))
    → (Matches (deriv c q) xs → Matches q (c ∷ xs)) → (b : Bool) → nullable p ≡ b
    → Matches (if b then either (seq (deriv c p) q) (deriv c q) else seq (deriv c p) q) xs
    → Matches (Then p q) (c ∷ xs)
then-to p q c xs first second true e m = elim (either-to (seq (deriv c p) q) (deriv c q) xs m) [
  | inl l ↦
      let (ys, zs, mp, mq, f) = seq-to (deriv c p) q xs l in
      (c ∷ ys, zs, first ys mp, mq, ap (λ w. c ∷ w) f)
  | inr r ↦ ([], c ∷ xs, null-to p e, second r, refl)
]
then-to p q c xs first second false e m =
    let (ys, zs, mp, mq, f) = seq-to (deriv c p) q xs m in
    (c ∷ ys, zs, first ys mp, mq, ap (λ w. c ∷ w) f)

pub deriv-to : (p : Pattern) (c : ℕ) (xs : List ℕ) → Matches (deriv c p) xs → Matches p (c ∷ xs)
deriv-to Nothing c xs m = absurd m
deriv-to Empty c xs m = absurd m
deriv-to (One set) c xs m = one-to c set xs (is_in c set) refl m
deriv-to (Then p q) c xs m =
    then-to p q c xs (λ ys mp. deriv-to p c ys mp) (λ mq. deriv-to q c xs mq) (nullable p) refl m
deriv-to (Or p q) c xs m = elim (either-to (deriv c p) (deriv c q) xs m) [
  | inl mp ↦ inl (deriv-to p c xs mp)
  | inr mq ↦ inr (deriv-to q c xs mq)
]
deriv-to (Star p) c xs m =
    let (ys, zs, mp, rest, e) = seq-to (deriv c p) (Star p) xs m in
    subst (λ w. Rounds (Matches p) (c ∷ w)) (sym e) (one_more (c ∷ ys) zs (deriv-to p c ys mp) rest)

-- what begins with the first part, and what leaves it empty
then_read : (p q : Pattern) (c : ℕ) (xs : List ℕ) (b : Bool) → Matches (Then (deriv c p) q) xs
    → Matches (if b then either (seq (deriv c p) q) (deriv c q) else seq (deriv c p) q) xs
then_read p q c xs true m = either-of (seq (deriv c p) q) (deriv c q) xs (inl (seq-of (deriv c p) q xs m))
then_read p q c xs false m = seq-of (deriv c p) q xs m

then_passed : (p q : Pattern) (c : ℕ) (xs : List ℕ) (b : Bool) → nullable p ≡ b → nullable p ≡ true → Matches (deriv c q) xs
    → Matches (if b then either (seq (deriv c p) q) (deriv c q) else seq (deriv c p) q) xs
then_passed p q c xs true e f m = either-of (seq (deriv c p) q) (deriv c q) xs (inr m)
then_passed p q c xs false e f m = absurd (both_ways (nullable p) e f)

then-of : (p q : Pattern) (c : ℕ) (xs : List ℕ) → ((ys : List ℕ) → Matches p (c ∷ ys) → Matches (deriv c p) ys)
    → (Matches q (c ∷ xs) → Matches (deriv c q) xs) → (ys zs : List ℕ) → Matches p ys → Matches q zs → c ∷ xs ≡ ys ++ zs
    → Matches (deriv c (Then p q)) xs
then-of p q c xs first second [] zs mp mq e =
    then_passed p q c xs (nullable p) refl (null-of p mp) (second (subst (λ w. Matches q w) (sym e) mq))
then-of p q c xs first second (y ∷ ys) zs mp mq e =
    then_read p q c xs (nullable p)
    (ys, zs, first ys (subst (λ n. Matches p (n ∷ ys)) (sym (head_is c y xs (ys ++ zs) e)) mp), mq, tail_is c y xs (ys ++ zs) e)

pub deriv-of : (p : Pattern) (c : ℕ) (xs : List ℕ) → Matches p (c ∷ xs) → Matches (deriv c p) xs
deriv-of Nothing c xs m = absurd m
deriv-of Empty c xs m = absurd (not_empty c xs (sym m))
deriv-of (One set) c xs m =
    let (d, h, e) = m in
    one-of c set xs (is_in c set) refl (subst (λ n. is_in n set ≡ true) (sym (head_is c d xs [] e)) h) (tail_is c d xs [] e)
deriv-of (Then p q) c xs m =
    let (ys, zs, mp, mq, e) = m in
    then-of p q c xs (λ us mu. deriv-of p c us mu) (λ mr. deriv-of q c xs mr) ys zs mp mq e
deriv-of (Or p q) c xs m = either-of (deriv c p) (deriv c q) xs (elim m [
  | inl mp ↦ inl (deriv-of p c xs mp)
  | inr mq ↦ inr (deriv-of q c xs mq)
])
deriv-of (Star p) c xs m =
    let (us, vs, mp, rest, e) = first_round (Matches p) (c ∷ xs) m c xs refl in
    seq-of (deriv c p) (Star p) xs (us, vs, deriv-of p c us mp, rest, e)
