-- what one step among the pairs of `avar` does
use Rattle.std.proofs.Common.{◌≡◌, ℕ, suc, ℤ, ◌<◌, ◌+◌, ◌-◌, true, false, List, [], ◌∷◌, ◌++◌, map, refl, sym, ap₂, ◌∙◌, arith, int_lt}
use Rattle.std.specs.List.{range_with_len}
use Rattle.std.proofs.lemmas.List.FromFn.{map-range_with_len_more}
use Rattle.font_variations.specs.Segments.{reached, from_of, segments_at, next_at}

pub reached_next : (t : List ℕ) (at : ℕ) (value : ℤ) (n i : ℕ) → i < n → int_lt (from_of t at i) value ≡ true
    → reached t at value (n - i) i ≡ reached t at value (n - (i + 1)) (i + 1)
reached_next t at value n i h f =
    let e : n - i ≡ suc (n - (i + 1)) = omega arith in
    let s : suc i ≡ i + 1 = omega arith in
    rw e (rw f (rw s refl))

pub reached_here : (t : List ℕ) (at : ℕ) (value : ℤ) (n i : ℕ) → i < n → int_lt (from_of t at i) value ≡ false
    → reached t at value (n - i) i ≡ i
reached_here t at value n i h f =
    let e : n - i ≡ suc (n - (i + 1)) = omega arith in
    rw e (rw f refl)

pub reached_end : (t : List ℕ) (at : ℕ) (value : ℤ) (n : ℕ) → reached t at value (n - n) n ≡ n
reached_end t at value n =
    let e : n - n ≡ 0 = omega arith in
    rw e refl

pub segments_next : (t : List ℕ) (i : ℕ) → segments_at t (i + 1) ≡ next_at t (segments_at t i)
segments_next t i =
    let s : i + 1 ≡ suc i = omega arith in
    rw s refl

-- one more item of a list by indexes
pub one_more : {X : Type 0} (f : ℕ → X) (xs ys : List X) (x : X) (n : ℕ) → xs ≡ map f (range_with_len 0 n) → x ≡ f n
    → ys ≡ xs ++ x ∷ [] → ys ≡ map f (range_with_len 0 (n + 1))
one_more f xs ys x n so_far is grown =
    grown ∙ ap₂ (λ zs z. zs ++ z ∷ []) so_far is ∙ sym (map-range_with_len_more f 0 n n (omega arith))
