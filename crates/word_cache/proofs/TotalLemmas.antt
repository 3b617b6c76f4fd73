-- How many bytes entries take, and what is left when the last goes.
use Rattle.std.proofs.Common.{◌≡◌, ◌⊎◌, ℕ, zero, suc, ◌+◌, ◌-◌, ◌<◌, ◌≤◌, List, [], ◌∷◌, ◌++◌, length, take, Some, None, Vec, Global, slice_get, get_or, refl, sym, ap, ◌∙◌, arith, inl, inr}
use Rattle.std.proofs.lemmas.List.{take_more, take_all}
use Rattle.std.proofs.lemmas.Option.{get_or_from_slice_get, slice_get-get_or}
use Rattle.word_cache.specs.Words.{Entry, entry, entry_bytes, shown, total, IsFront}
use Rattle.word_cache.specs.declared.words.Word.{Word}

abbrev pub Raw : Type 0
Raw = Vec ℕ Global × Word

pub length-shown : (es : List Raw) → length (shown es) ≡ length es
length-shown [] = refl
length-shown (e ∷ es) = ap suc (length-shown es)

pub shown-take : (n : ℕ) (es : List Raw) → shown (take n es) ≡ take n (shown es)
shown-take zero es = refl
shown-take (suc n) [] = refl
shown-take (suc n) (e ∷ es) = ap (λ l. entry e.0.items e.1 ∷ l) (shown-take n es)

pub take-less : (m n : ℕ) (es : List Entry) → m ≤ n → take m (take n es) ≡ take m es
take-less zero n es le = refl
take-less (suc m) zero es le = absurd (omega arith)
take-less (suc m) (suc n) [] le = refl
take-less (suc m) (suc n) (e ∷ es) le = ap (λ l. e ∷ l) (take-less m n es (omega arith))

total-push : (es : List Raw) (e : Raw) → total (shown (es ++ e ∷ [])) ≡ total (shown es) + entry_bytes (entry e.0.items e.1)
total-push [] e = omega arith
total-push (f ∷ es) e = let rest = total-push es e in omega arith

-- the bytes of the last entry, and of those before it
pub total-last : (es : List Raw) (e : Raw) → 0 < length es → Some e ≡ slice_get es (length es - 1)
    → total (shown es) ≡ total (shown (take (length es - 1) es)) + entry_bytes (entry e.0.items e.1)
total-last es e some is =
    let n = length es - 1 in
    let here : n < length es = omega arith in
    let last : get_or es n e ≡ e = get_or_from_slice_get es n e e (sym is) in
    let whole : take (n + 1) es ≡ es = take_all (n + 1) es (omega arith) in
    ap (λ l. total (shown l)) (sym whole ∙ take_more es n e here ∙ ap (λ x. take n es ++ x ∷ []) last) ∙ total-push (take n es) e

-- entries that are there have a last one
pub no_last : (es : List Raw) → 0 < length es → None ≡ slice_get es (length es - 1) → ⊥
no_last [] some is = absurd (omega arith)
no_last (e ∷ es) some is =
    let n = length (e ∷ es) - 1 in
    let there : slice_get (e ∷ es) n ≡ Some (get_or (e ∷ es) n e) = slice_get-get_or (e ∷ es) n e (omega arith) in
    absurd (let clash : None ≡ Some (get_or (e ∷ es) n e) = is ∙ there in cc)

-- what is left takes no more than the bound and the first together
few_first : (n : ℕ) (e : Entry) (es : List Entry) → n ≤ 1 → total (take n (e ∷ es)) ≤ entry_bytes e
few_first zero e es le = omega arith
few_first (suc zero) e es le = omega arith
few_first (suc (suc n)) e es le = absurd (omega arith)

few_by : (limit : ℕ) (e : Entry) (es kept : List Entry) (count : ℕ) → kept ≡ take count (e ∷ es) → (count ≤ 1) ⊎ (total kept ≤ limit)
    → total kept ≤ entry_bytes e + limit
few_by limit e es kept count is (inl one) = let few = few_first count e es one in let same = ap total is in omega arith
few_by limit e es kept count is (inr le) = omega arith

pub front-bytes : (limit : ℕ) (e : Entry) (es kept : List Entry) → IsFront limit (e ∷ es) kept → total kept ≤ entry_bytes e + limit
front-bytes limit e es kept front = few_by limit e es kept front.count front.is front.fit
