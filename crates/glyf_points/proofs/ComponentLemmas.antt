-- what one step over components does
use Rattle.std.proofs.Common.{◌≡◌, ℕ, suc, ◌<◌, ◌≤◌, ◌+◌, ◌-◌, List, [], ◌∷◌, ◌++◌, true, false, nat_lt, length, refl, arith}
use Rattle.std.proofs.lemmas.Bool.Decides.{nat_tests}
use Rattle.std.proofs.lemmas.List.{append-nil, append_assoc}
use Rattle.font_bytes.specs.Bytes.{u16_of}
use Rattle.glyf_points.specs.Flags.{has}
use Rattle.glyf_points.specs.Composite.{components_from, component_of, component_size}
use Rattle.glyf_points.specs.declared.composite.Component.{Component}

pub components_step : (t : List ℕ) (before : List Component) (n i at : ℕ) → i < n → at + component_size (u16_of t at) ≤ length t
    → has (u16_of t at) 0x20 ≡ true
    → before ++ components_from t (n - i) at
    ≡ (before ++ component_of t at (u16_of t at) ∷ []) ++ components_from t (n - (i + 1)) (at + component_size (u16_of t at))
components_step t before n i at h fits more =
    let e : n - i ≡ suc (n - (i + 1)) = omega arith in
    let no : nat_lt (length t) (at + component_size (u16_of t at)) ≡ false = grind (arith, nat_tests, fits) in
    rw e (rw (no, more, components_from) (rw append_assoc refl))

pub components_last : (t : List ℕ) (before : List Component) (n i at : ℕ) → i < n → at + component_size (u16_of t at) ≤ length t
    → has (u16_of t at) 0x20 ≡ false → before ++ components_from t (n - i) at ≡ before ++ component_of t at (u16_of t at) ∷ []
components_last t before n i at h fits last =
    let e : n - i ≡ suc (n - (i + 1)) = omega arith in
    let no : nat_lt (length t) (at + component_size (u16_of t at)) ≡ false = grind (arith, nat_tests, fits) in
    rw e (rw (no, last, components_from) refl)

pub components_cut : (t : List ℕ) (before : List Component) (n i at : ℕ) → i < n → length t < at + component_size (u16_of t at)
    → before ++ components_from t (n - i) at ≡ before
components_cut t before n i at h past =
    let e : n - i ≡ suc (n - (i + 1)) = omega arith in
    let yes : nat_lt (length t) (at + component_size (u16_of t at)) ≡ true = grind (arith, nat_tests, past) in
    rw e (rw (yes, components_from) (append-nil before))

pub components_over : (t : List ℕ) (before : List Component) (n at : ℕ) → before ++ components_from t (n - n) at ≡ before
components_over t before n at =
    let e : n - n ≡ 0 = omega arith in
    rw e (append-nil before)
