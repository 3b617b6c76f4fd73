-- What a table finds is what its grammar finds, and tables that are computed to be those of a grammar.
use Rattle.std.proofs.Common.{◌≡◌, ℕ, ◌+◌, ◌<◌, ◌==◌, Bool, true, false, if◌then◌else◌, List, [], ◌∷◌, refl, sym, ap, subst, ◌∙◌, arith}
use Rattle.std.proofs.lemmas.Bool.Decides.{nat_tests}
use Rattle.syllables.specs.Grammar.{Grammar, kind_of, better, longest, first_syllable}
use Rattle.syllables.specs.Machines.{next_state, kind_at, kind_or_none, read_on, by_table, IsMachineOf}
use Rattle.syllables.specs.declared.scanner.Machine.{Machine}
use Rattle.syllables.specs.declared.scanner.Syllable.{Syllable}

-- a grammar without rules finds nothing more
longest-none : (n : ℕ) (found : Syllable) (xs : List ℕ) → longest [] n found xs ≡ found
longest-none n found [] = refl
longest-none n found (c ∷ xs) = longest-none (n + 1) found xs

-- one step of the table is one of the grammar
one_read : (m : Machine) (g : Grammar) (is : IsMachineOf m g) (c : ℕ) (xs : List ℕ) (n : ℕ) (found : Syllable) (t : ℕ)
    → ((n' : ℕ) (found' : Syllable) → read_on m t n' found' xs ≡ longest (is.rests t) n' found' xs)
    → kind_of (is.rests t) ≡ kind_or_none (kind_at m t) → (b : Bool) → (t == 0) ≡ b
    → (if b then found else read_on m t (n + 1) (better (kind_or_none (kind_at m t)) (n + 1) found) xs)
    ≡ longest (is.rests t) (n + 1) (better (kind_of (is.rests t)) (n + 1) found) xs
one_read m g is c xs n found t rest kinds true e =
    let zero-is : t ≡ 0 = grind (arith, nat_tests) in
    let empty : is.rests t ≡ [] = subst (λ s. is.rests s ≡ []) (sym zero-is) is.dead in
    sym (subst (λ w. longest w (n + 1) (better (kind_of w) (n + 1) found) xs ≡ found) (sym empty) (longest-none (n + 1) found xs))
one_read m g is c xs n found t rest kinds false e =
    subst (λ k. read_on m t (n + 1) (better k (n + 1) found) xs ≡ longest (is.rests t) (n + 1) (better (kind_of (is.rests t)) (n + 1) found) xs)
    kinds (rest (n + 1) (better (kind_of (is.rests t)) (n + 1) found))

pub read-is : (m : Machine) (g : Grammar) (is : IsMachineOf m g) (xs : List ℕ) (s n : ℕ) (found : Syllable) → s < is.states
    → read_on m s n found xs ≡ longest (is.rests s) n found xs
read-is m g is [] s n found within = refl
read-is m g is (c ∷ xs) s n found within =
    let t = next_state m s c in
    subst (λ w. read_on m s n found (c ∷ xs) ≡ longest w (n + 1) (better (kind_of w) (n + 1) found) xs) (sym (is.next s c within))
    (one_read m g is c xs n found t (λ n' found'. read-is m g is xs t n' found' (is.closed s c within))
    (is.kinds t (is.closed s c within)) (t == 0) refl)

pub table-is : (m : Machine) (g : Grammar) → IsMachineOf m g → (xs : List ℕ) → by_table m xs ≡ first_syllable g m.other xs
table-is m g is xs =
    read-is m g is xs 1 0 (record { kind = m.other; count = 1 }) is.some
    ∙ ap (λ w. longest w 0 (record { kind = m.other; count = 1 }) xs) is.start
