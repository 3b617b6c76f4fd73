-- Rows of places, by tests.
use Rattle.std.proofs.Common.{◌≡◌, ◌⊎◌, ℕ, zero, suc, ◌+◌, ◌<◌, ◌&&◌, ◌||◌, Bool, true, false, ℤ, List, length, refl, ap, ◌∙◌, arith, inl, inr}
use Rattle.std.proofs.lemmas.Bool.{cases_lt, false≢true}
use Rattle.std.proofs.lemmas.Bool.Decides.{nat_tests}
use Rattle.std.specs.Prelude.{nat_lt, nat_le}
use Rattle.shape_carets.specs.Carets.{offset_at, x_at}
use Rattle.shape_carets.specs.Places.{gap, IsPlaceOf, IsNearest}
use Rattle.shape_carets.specs.declared.caret.Caret.{Caret}

both : (a b : Bool) → a && b ≡ true → (a ≡ true) × (b ≡ true)
both true b e = (refl, e)
both false b e = absurd (false≢true e)

either : (a b : Bool) → a || b ≡ true → (a ≡ true) ⊎ (b ≡ true)
either true b e = inl refl
either false b e = inr e

-- a test holds of each number below
abbrev each_below : (ℕ → Bool) → ℕ → Bool
each_below test zero = true
each_below test (suc n) = test n && each_below test n

each : (test : ℕ → Bool) (n : ℕ) → each_below test n ≡ true → (k : ℕ) → k < n → test k ≡ true
each test zero all k lt = absurd (omega arith)
each test (suc n) all k lt =
    let parts = both (test n) (each_below test n) all in
    elim (cases_lt k n) [
      | inl earlier ↦ each test n parts.1 k earlier
      | inr ge ↦ let here : k ≡ n = omega arith in ap test here ∙ parts.0
    ]

-- a place is that of the nearest
abbrev is_nearest : List Caret → ℤ → ℕ → Bool
is_nearest carets x place =
    nat_lt place (length carets)
    && (each_below (λ k. nat_le (gap (x_at carets place) x) (gap (x_at carets k) x)) place
    && each_below (λ k. nat_le k place || nat_lt (gap (x_at carets place) x) (gap (x_at carets k) x)) (length carets))

pub nearest-row : (carets : List Caret) (x : ℤ) (place : ℕ) → is_nearest carets x place ≡ true → IsNearest carets x place
nearest-row carets x place is =
    let near = λ (k : ℕ). nat_le (gap (x_at carets place) x) (gap (x_at carets k) x) in
    let far = λ (k : ℕ). nat_le k place || nat_lt (gap (x_at carets place) x) (gap (x_at carets k) x) in
    let parts = both (nat_lt place (length carets)) (each_below near place && each_below far (length carets)) is in
    let within = parts.0 in
    let rest = both (each_below near place) (each_below far (length carets)) parts.1 in
    record {
      within = grind (arith, nat_tests, within);
      none_nearer = λ k lt. let le = each near place rest.0 k lt in grind (arith, nat_tests, le);
      last = λ k after lt. elim (either (nat_le k place) (nat_lt (gap (x_at carets place) x) (gap (x_at carets k) x)) (each far (length carets) rest.1 k lt)) [
        | inl before ↦ grind (arith, nat_tests, before, after)
        | inr less ↦ grind (arith, nat_tests, less)
      ];
    }

-- a place is that of an offset's caret
abbrev is_place : List Caret → ℕ → ℕ → Bool
is_place carets offset place =
    nat_lt place (length carets)
    && (each_below (λ k. nat_le k 0 || nat_le (offset_at carets k) offset) (place + 1)
    && (nat_le (length carets) (place + 1) || nat_lt offset (offset_at carets (place + 1))))

pub place-row : (carets : List Caret) (offset place : ℕ) → is_place carets offset place ≡ true → IsPlaceOf carets offset place
place-row carets offset place is =
    let up_to = λ (k : ℕ). nat_le k 0 || nat_le (offset_at carets k) offset in
    let next = nat_le (length carets) (place + 1) || nat_lt offset (offset_at carets (place + 1)) in
    let parts = both (nat_lt place (length carets)) (each_below up_to (place + 1) && next) is in
    let within = parts.0 in
    let rest = both (each_below up_to (place + 1)) next parts.1 in
    record {
      within = grind (arith, nat_tests, within);
      none_past = λ k some le. elim (either (nat_le k 0) (nat_le (offset_at carets k) offset) (each up_to (place + 1) rest.0 k (omega arith))) [
        | inl none ↦ grind (arith, nat_tests, none, some)
        | inr not_past ↦ grind (arith, nat_tests, not_past)
      ];
      next_past = λ more. elim (either (nat_le (length carets) (place + 1)) (nat_lt offset (offset_at carets (place + 1))) rest.1) [
        | inl none ↦ grind (arith, nat_tests, none, more)
        | inr past ↦ grind (arith, nat_tests, past)
      ];
    }
