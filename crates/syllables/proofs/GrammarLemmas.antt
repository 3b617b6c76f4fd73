-- What a grammar finds by derivatives is what its patterns match.
use Rattle.std.proofs.Common.{◌≡◌, ℕ, zero, suc, ◌+◌, ◌<◌, ◌≤◌, Bool, true, false, if◌then◌else◌, ◌⊎◌, inl, inr, List, [], ◌∷◌, Option, None, Some, length, take, refl, sym, ap, subst, ◌∙◌, arith}
use Rattle.std.proofs.lemmas.Bool.{both_ways}
use Rattle.syllables.specs.Pattern.{Pattern, Matches}
use Rattle.syllables.specs.Derivatives.{nullable, is_nothing, deriv}
use Rattle.syllables.specs.Grammar.{Grammar, HasKind, HasNoKind, IsFirstSyllable, step, kind_of, steps, better, longest, first_syllable}
use Rattle.syllables.specs.declared.scanner.Syllable.{Syllable}
use Rattle.syllables.proofs.MatchLemmas.{nothing-is, null-to, null-of, deriv-to, deriv-of}

some_is : (j k : ℕ) → Some j ≡ Some k → j ≡ k
some_is j k e = ap (λ (o : Option ℕ). elim o [ None ↦ 0 | Some n ↦ n ]) e

not_some : (k : ℕ) → None ≡ Some k → ⊥
not_some k e = both_ways false refl (ap (λ (o : Option ℕ). elim o [ None ↦ false | Some n ↦ true ]) e)

-- ---- of the empty text

kind_by : (rule : ℕ × Pattern) (rules : Grammar) (k : ℕ) → (kind_of rules ≡ Some k → HasKind rules [] k) → (b : Bool) → nullable rule.1 ≡ b
    → (if b then Some rule.0 else kind_of rules) ≡ Some k → HasKind (rule ∷ rules) [] k
kind_by rule rules k rest true e f = inl (null-to rule.1 e, some_is rule.0 k f)
kind_by rule rules k rest false e f = inr (λ m. both_ways (nullable rule.1) e (null-of rule.1 m), rest f)

kind-at : (g : Grammar) (k : ℕ) → kind_of g ≡ Some k → HasKind g [] k
kind-at [] k e = not_some k e
kind-at (rule ∷ rules) k e = kind_by rule rules k (kind-at rules k) (nullable rule.1) refl e

no_kind_by : (rule : ℕ × Pattern) (rules : Grammar) → (kind_of rules ≡ None → HasNoKind rules []) → (b : Bool) → nullable rule.1 ≡ b
    → (if b then Some rule.0 else kind_of rules) ≡ None → HasNoKind (rule ∷ rules) []
no_kind_by rule rules rest true e f = absurd (not_some rule.0 (sym f))
no_kind_by rule rules rest false e f = (λ m. both_ways (nullable rule.1) e (null-of rule.1 m), rest f)

no_kind-at : (g : Grammar) → kind_of g ≡ None → HasNoKind g []
no_kind-at [] e = tt
no_kind-at (rule ∷ rules) e = no_kind_by rule rules (no_kind-at rules) (nullable rule.1) refl e

-- ---- of a character and a text after it

rest_by : (kind : ℕ) (p d : Pattern) (rest rules : Grammar) (c : ℕ) (xs : List ℕ) (k : ℕ) → (Matches d xs → Matches p (c ∷ xs))
    → (Matches p (c ∷ xs) → Matches d xs) → (HasKind rest xs k → HasKind rules (c ∷ xs) k) → (b : Bool) → is_nothing d ≡ b
    → HasKind (if b then rest else (kind, d) ∷ rest) xs k → HasKind ((kind, p) ∷ rules) (c ∷ xs) k
rest_by kind p d rest rules c xs k to of later true e m =
    inr (λ mp. subst (λ r. Matches r xs) (nothing-is d e) (of mp), later m)
rest_by kind p d rest rules c xs k to of later false e m = elim m [
  | inl here ↦ inl (to here.0, here.1)
  | inr there ↦ inr (λ mp. there.0 (of mp), later there.1)
]

step-kind : (g : Grammar) (c : ℕ) (xs : List ℕ) (k : ℕ) → HasKind (step c g) xs k → HasKind g (c ∷ xs) k
step-kind [] c xs k m = absurd m
step-kind (rule ∷ rules) c xs k m =
    rest_by rule.0 rule.1 (deriv c rule.1) (step c rules) rules c xs k (deriv-to rule.1 c xs) (deriv-of rule.1 c xs)
    (step-kind rules c xs k) (is_nothing (deriv c rule.1)) refl m

none_by : (kind : ℕ) (p d : Pattern) (rest rules : Grammar) (c : ℕ) (xs : List ℕ) → (Matches p (c ∷ xs) → Matches d xs)
    → (HasNoKind rest xs → HasNoKind rules (c ∷ xs)) → (b : Bool) → is_nothing d ≡ b
    → HasNoKind (if b then rest else (kind, d) ∷ rest) xs → HasNoKind ((kind, p) ∷ rules) (c ∷ xs)
none_by kind p d rest rules c xs of later true e m =
    (λ mp. subst (λ r. Matches r xs) (nothing-is d e) (of mp), later m)
none_by kind p d rest rules c xs of later false e m = (λ mp. m.0 (of mp), later m.1)

step-no_kind : (g : Grammar) (c : ℕ) (xs : List ℕ) → HasNoKind (step c g) xs → HasNoKind g (c ∷ xs)
step-no_kind [] c xs m = tt
step-no_kind (rule ∷ rules) c xs m =
    none_by rule.0 rule.1 (deriv c rule.1) (step c rules) rules c xs (deriv-of rule.1 c xs)
    (step-no_kind rules c xs) (is_nothing (deriv c rule.1)) refl m

-- ---- of any text

pub kinds-sound : (xs : List ℕ) (g : Grammar) (k : ℕ) → kind_of (steps xs g) ≡ Some k → HasKind g xs k
kinds-sound [] g k e = kind-at g k e
kinds-sound (c ∷ xs) g k e = step-kind g c xs k (kinds-sound xs (step c g) k e)

pub no_kinds-sound : (xs : List ℕ) (g : Grammar) → kind_of (steps xs g) ≡ None → HasNoKind g xs
no_kinds-sound [] g e = no_kind-at g e
no_kinds-sound (c ∷ xs) g e = step-no_kind g c xs (no_kinds-sound xs (step c g) e)

-- ---- the longest one

-- what is found in a text after `n` characters: nothing more, or the longest beginning that has a kind
abbrev Longest : Grammar → ℕ → Syllable → List ℕ → Syllable → Type 0
Longest g n found xs r =
    ((r ≡ found) × ((k : ℕ) → k < length xs → kind_of (steps (take (suc k) xs) g) ≡ None))
    ⊎ ((k : ℕ) × (k < length xs) × (r.count ≡ n + suc k) × (kind_of (steps (take (suc k) xs) g) ≡ Some r.kind)
    × ((j : ℕ) → k < j → j < length xs → kind_of (steps (take (suc j) xs) g) ≡ None))

none_all : (c : ℕ) (cs : List ℕ) (g : Grammar) → kind_of (step c g) ≡ None
    → ((k : ℕ) → k < length cs → kind_of (steps (take (suc k) cs) (step c g)) ≡ None)
    → (k : ℕ) → k < length (c ∷ cs) → kind_of (steps (take (suc k) (c ∷ cs)) g) ≡ None
none_all c cs g e none zero h = e
none_all c cs g e none (suc k) h = none k (omega arith)

none_later : (c : ℕ) (cs : List ℕ) (g : Grammar) (i : ℕ)
    → ((k : ℕ) → i ≤ k → k < length cs → kind_of (steps (take (suc k) cs) (step c g)) ≡ None)
    → (j : ℕ) → i < j → j < length (c ∷ cs) → kind_of (steps (take (suc j) (c ∷ cs)) g) ≡ None
none_later c cs g i none zero a h = absurd (omega arith)
none_later c cs g i none (suc j) a h = none j (omega arith) (omega arith)

one_read : (c : ℕ) (cs : List ℕ) (g : Grammar) (n : ℕ) (found : Syllable) (o : Option ℕ) → kind_of (step c g) ≡ o → (r : Syllable)
    → Longest (step c g) (n + 1) (better o (n + 1) found) cs r → Longest g n found (c ∷ cs) r
one_read c cs g n found None e r (inl m) = inl (m.0, none_all c cs g e m.1)
one_read c cs g n found (Some kind) e r (inl m) =
    let count : r.count ≡ n + 1 = ap (λ (s : Syllable). s.count) m.0 in
    let of : r.kind ≡ kind = ap (λ (s : Syllable). s.kind) m.0 in
    inr (0, omega arith, omega arith, e ∙ ap Some (sym of), none_later c cs g 0 (λ k a h. m.1 k h))
one_read c cs g n found o e r (inr m) =
    let (k, within, count, kind, later) = m in
    inr (suc k, omega arith, omega arith, kind, none_later c cs g (suc k) (λ j a h. later j (omega arith) h))

longest-outcome : (xs : List ℕ) (g : Grammar) (n : ℕ) (found : Syllable) → Longest g n found xs (longest g n found xs)
longest-outcome [] g n found = inl (refl, λ k h. absurd (omega arith))
longest-outcome (c ∷ cs) g n found =
    one_read c cs g n found (kind_of (step c g)) refl (longest g n found (c ∷ cs))
    (longest-outcome cs (step c g) (n + 1) (better (kind_of (step c g)) (n + 1) found))

first-by : (g : Grammar) (other : ℕ) (xs : List ℕ) (r : Syllable) → Longest g 0 (record { kind = other; count = 1 }) xs r
    → IsFirstSyllable g other xs r
first-by g other xs r (inl m) = record {
  kind = inr (m.0, λ n h. no_kinds-sound (take (suc n) xs) g (m.1 n h));
  longest = λ n a h. no_kinds-sound (take (suc n) xs) g (m.1 n h);
}
first-by g other xs r (inr m) =
    let (k, within, count, kind, later) = m in
    let counted : suc k ≡ r.count = omega arith in
    record {
      kind = inl (subst (λ n. HasKind g (take n xs) r.kind) counted (kinds-sound (take (suc k) xs) g r.kind kind));
      longest = λ n a h. no_kinds-sound (take (suc n) xs) g (later n (omega arith) h);
    }

pub first-is : (g : Grammar) (other : ℕ) (xs : List ℕ) → IsFirstSyllable g other xs (first_syllable g other xs)
first-is g other xs = first-by g other xs (first_syllable g other xs) (longest-outcome xs g 0 (record { kind = other; count = 1 }))
