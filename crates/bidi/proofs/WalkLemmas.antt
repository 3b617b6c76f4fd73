-- A list that is changed in place, one item after another.
use Rattle.std.proofs.Common.{◌≡◌, ℕ, zero, suc, ◌+◌, ◌<◌, List, [], ◌∷◌, ◌++◌, length, get_or, take, drop, refl, ap, sym, ◌∙◌, arith}
use Rattle.std.proofs.Math.ListN.{set}
use Rattle.std.proofs.lemmas.List.{drop_more}

walked-suc : {A : Type 0} (f : List A → List A) (xs : List A) (n : ℕ) (v : A) → n < length xs
    → take (suc n) (set xs n v) ++ f (drop (suc n) (set xs n v)) ≡ take n xs ++ (v ∷ f (drop (suc n) xs))
walked-suc f [] n v lt = absurd (omega arith)
walked-suc f (x ∷ xs) zero v lt = refl
walked-suc f (x ∷ xs) (suc n) v lt = ap (λ l. x ∷ l) (walked-suc f xs n v (omega arith))

-- the items up to a place are changed, those after it are as they were: `before` is what was to be done from the place on,
-- and `after` what is to be done from the next one on
pub walked : {A : Type 0} (before after : List A → List A) (xs : List A) (n : ℕ) (v d : A) → n < length xs
    → before (get_or xs n d ∷ drop (n + 1) xs) ≡ v ∷ after (drop (n + 1) xs)
    → take (n + 1) (set xs n v) ++ after (drop (n + 1) (set xs n v)) ≡ take n xs ++ before (drop n xs)
walked before after xs n v d lt step =
    let e : n + 1 ≡ suc n = omega arith in
    let here : take (n + 1) (set xs n v) ++ after (drop (n + 1) (set xs n v)) ≡ take n xs ++ (v ∷ after (drop (n + 1) xs)) = rw e (walked-suc after xs n v lt) in
    here ∙ ap (λ l. take n xs ++ l) (sym (ap before (drop_more xs n d lt) ∙ step))

drop-set : {A : Type 0} (xs : List A) (n : ℕ) (v : A) → drop (suc n) (set xs n v) ≡ drop (suc n) xs
drop-set [] n v = refl
drop-set (x ∷ xs) zero v = refl
drop-set (x ∷ xs) (suc n) v = drop-set xs n v

-- what is after a changed item is as it was
pub drop-walked : {A : Type 0} (xs : List A) (n : ℕ) (v : A) → drop (n + 1) (set xs n v) ≡ drop (n + 1) xs
drop-walked xs n v = let e : n + 1 ≡ suc n = omega arith in rw e (drop-set xs n v)
