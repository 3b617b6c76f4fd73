-- Names, letter by letter.
use Rattle.std.proofs.Common.{◌≡◌, ◌≢◌, ℕ, suc, ◌+◌, ◌-◌, ◌<◌, ◌≤◌, Bool, true, false, List, nat_eq, refl, sym, ap, ◌∙◌, arith}
use Rattle.std.proofs.lemmas.Bool.Decides.{nat_tests}
use Rattle.apple_substitution.specs.Languages.{ends_at, is_in_from, letter_at}

one_more : (l t : List ℕ) (n i : ℕ) (end : Bool) → i < n → is_in_from l t (n - i) i ≡ end → is_in_from l t (suc (n - (i + 1))) i ≡ end
one_more l t n i end more before =
    let e : n - i ≡ suc (n - (i + 1)) = omega (arith, more) in
    sym (ap (λ k. is_in_from l t k i) e) ∙ before

pub in_next : (l t : List ℕ) (n i letter other : ℕ) (end : Bool) → i < n → is_in_from l t (n - i) i ≡ end → letter ≡ letter_at l i
    → other ≡ letter_at t i → letter ≢ 0 → letter ≡ other → is_in_from l t (n - (i + 1)) (i + 1) ≡ end
in_next l t n i letter other end more before is is_other some same =
    let goes_on : nat_eq (letter_at l i) 0 ≡ false = grind (arith, nat_tests, is, some) in
    let alike : nat_eq (letter_at l i) (letter_at t i) ≡ true = grind (arith, nat_tests, is, is_other, same) in
    let step : is_in_from l t (suc (n - (i + 1))) i ≡ is_in_from l t (n - (i + 1)) (i + 1) = rw (goes_on, alike) refl in
    sym step ∙ one_more l t n i end more before

pub in_ended : (l t : List ℕ) (n i letter : ℕ) (end : Bool) → i < n → is_in_from l t (n - i) i ≡ end → letter ≡ letter_at l i
    → letter ≡ 0 → ends_at t i ≡ end
in_ended l t n i letter end more before is none =
    let stops : nat_eq (letter_at l i) 0 ≡ true = grind (arith, nat_tests, is, none) in
    let step : is_in_from l t (suc (n - (i + 1))) i ≡ ends_at t i = rw stops refl in
    sym step ∙ one_more l t n i end more before

pub in_other : (l t : List ℕ) (n i letter other : ℕ) (end : Bool) → i < n → is_in_from l t (n - i) i ≡ end → letter ≡ letter_at l i
    → other ≡ letter_at t i → letter ≢ 0 → letter ≢ other → false ≡ end
in_other l t n i letter other end more before is is_other some differs =
    let goes_on : nat_eq (letter_at l i) 0 ≡ false = grind (arith, nat_tests, is, some) in
    let unlike : nat_eq (letter_at l i) (letter_at t i) ≡ false = grind (arith, nat_tests, is, is_other, differs) in
    let step : is_in_from l t (suc (n - (i + 1))) i ≡ false = rw (goes_on, unlike) refl in
    sym step ∙ one_more l t n i end more before

pub in_all : (l t : List ℕ) (n i : ℕ) (end : Bool) → is_in_from l t (n - i) i ≡ end → n ≤ i → i ≤ n → ends_at t n ≡ end
in_all l t n i end before over at =
    let none : n - i ≡ 0 = omega (arith, over) in
    let here : n ≡ i = omega (arith, over, at) in
    ap (ends_at t) here ∙ sym (ap (λ k. is_in_from l t k i) none) ∙ before
