-- what one step along a chain of subtables does
use Prim.Native.Nat.{zero}
use Rattle.std.proofs.Common.{◌≡◌, ◌∙◌, ap, sym, ℕ, suc, List, [], ◌∷◌, ◌<◌, ◌+◌, ◌-◌, true, false, nat_eq, length, take, drop, refl, arith}
use Rattle.std.proofs.lemmas.List.{length-drop, take_all}
use Rattle.shape_font.specs.Bytes.{u32_of}
use Rattle.apple_positioning.specs.Chains.{bytes_of, ends_chain, subtables_from}

chain_one : (t : List ℕ) (n start : ℕ) → ends_chain t start ≡ false
    → subtables_from t (suc n) start ≡ bytes_of t start (nat_eq n 0) ∷ subtables_from t n (start + u32_of t start)
chain_one t n start f = rw f refl

pub chain_next : (t : List ℕ) (n start : ℕ) → 0 < n → ends_chain t start ≡ false
    → subtables_from t n start ≡ bytes_of t start (nat_eq (n - 1) 0) ∷ subtables_from t (n - 1) (start + u32_of t start)
chain_next t n start h f =
    let e : n ≡ suc (n - 1) = omega arith in
    ap (λ k. subtables_from t k start) e ∙ chain_one t (n - 1) start f

all_left : (t : List ℕ) (start : ℕ) → take (length t - start) (drop start t) ≡ drop start t
all_left t start =
    let e = length-drop start t in
    take_all (length t - start) (drop start t) (omega (arith, e))

pub chain_last : (t : List ℕ) (n start : ℕ) → 0 < n → n - 1 ≡ 0 → ends_chain t start ≡ false
    → subtables_from t n start ≡ take (length t - start) (drop start t) ∷ subtables_from t (n - 1) (start + u32_of t start)
chain_last t n start h last f =
    let e : bytes_of t start (nat_eq (n - 1) 0) ≡ take (length t - start) (drop start t)
    = ap (λ k. bytes_of t start (nat_eq k 0)) last ∙ sym (all_left t start) in
    chain_next t n start h f ∙ ap (λ s. s ∷ subtables_from t (n - 1) (start + u32_of t start)) e

pub chain_ended : (t : List ℕ) (n start : ℕ) → ends_chain t start ≡ true → subtables_from t n start ≡ []
chain_ended t zero start f = refl
chain_ended t (suc n) start f = rw f refl
