-- Lemmas on items that a walk passes over, four at a time.
use Rattle.std.proofs.Common.{◌≡◌, ℕ, zero, suc, [], ◌∷◌, ◌+◌, ◌<◌, ◌≤◌, ◌||◌, Bool, true, false, List, ◌++◌, map, length, take, drop, get_or, refl, ap, sym, ◌∙◌, arith}
use Rattle.std.specs.List.{list_any}
use Rattle.shape_items.specs.Items.{Item}
use Rattle.shape_buffer.specs.PositionWalks.{positions_over}
use Rattle.shape_common.specs.declared.positions.GlyphPosition.{GlyphPosition}
use Rattle.std.proofs.lemmas.List.Folds.{list_any_more}

-- one more element that doesn't pass
one_more : {X : Type 0} (p : X → Bool) (xs : List X) (i : ℕ) (d : X) → i < length xs → list_any p (take i xs) ≡ false
    → p (get_or xs i d) ≡ false → list_any p (take (i + 1) xs) ≡ false
one_more p xs i d within none this = list_any_more p xs i d within ∙ rw (none, this) refl

or_left : (a b : Bool) → (a || b) ≡ false → a ≡ false
or_left false b none = refl
or_left true b none = none

or_right : (a b : Bool) → (a || b) ≡ false → b ≡ false
or_right false b none = none
or_right true b none = absurd (let e : false ≡ true = sym none in cc)

-- four more elements that don't pass
pub four_more : {X : Type 0} (p : X → Bool) (xs : List X) (i : ℕ) (d : X) → i + 3 < length xs → list_any p (take i xs) ≡ false
    → (p (get_or xs i d) || (p (get_or xs (i + 1) d) || (p (get_or xs (i + 2) d) || p (get_or xs (i + 3) d)))) ≡ false
    → list_any p (take (i + 4) xs) ≡ false
four_more p xs i d within none these =
    let after_first = or_right (p (get_or xs i d)) _ these in
    let after_second = or_right (p (get_or xs (i + 1) d)) _ after_first in
    let two : i + 1 + 1 ≡ i + 2 = omega arith in
    let three : i + 2 + 1 ≡ i + 3 = omega arith in
    let four : i + 3 + 1 ≡ i + 4 = omega arith in
    let one = one_more p xs i d (omega (arith, within)) none (or_left _ _ these) in
    let second : list_any p (take (i + 2) xs) ≡ false =
    rw (← two) (one_more p xs (i + 1) d (omega (arith, within)) one (or_left _ _ after_first)) in
    let third : list_any p (take (i + 3) xs) ≡ false =
    rw (← three) (one_more p xs (i + 2) d (omega (arith, within)) second (or_left _ _ after_second)) in
    rw (← four) (one_more p xs (i + 3) d within third (or_right (p (get_or xs (i + 2) d)) _ after_second))

-- none among fewer elements
pub fewer : {X : Type 0} (p : X → Bool) (xs : List X) (k m : ℕ) → k ≤ m → list_any p (take m xs) ≡ false → list_any p (take k xs) ≡ false
fewer p xs zero m le none = refl
fewer p [] (suc k) m le none = refl
fewer p (x ∷ xs) (suc k) zero le none = absurd (omega (arith, le))
fewer p (x ∷ xs) (suc k) (suc m) le none =
    let this = or_left (p x) (list_any p (take m xs)) none in
    let rest = fewer p xs k m (omega (arith, le)) (or_right (p x) (list_any p (take m xs)) none) in
    rw (this, rest) refl

-- an element that passes stands after those that were passed over
pub past_alone : {X : Type 0} (p : X → Bool) (xs : List X) (n : ℕ) → list_any p (take n xs) ≡ false → list_any p (drop n xs) ≡ list_any p xs
past_alone p xs zero none = refl
past_alone p [] (suc n) none = refl
past_alone p (x ∷ xs) (suc n) none =
    let this = or_left (p x) (list_any p (take n xs)) none in
    let rest = past_alone p xs n (or_right (p x) (list_any p (take n xs)) none) in
    rw this rest

-- a map that leaves what doesn't pass leaves what was passed over
pub map_passed : {X : Type 0} (p : X → Bool) (f : X → X) → ((x : X) → p x ≡ false → f x ≡ x) → (xs : List X) (n : ℕ)
    → list_any p (take n xs) ≡ false → map f (take n xs) ++ drop n xs ≡ xs
map_passed p f same xs zero none = refl
map_passed p f same [] (suc n) none = refl
map_passed p f same (x ∷ xs) (suc n) none =
    let this = same x (or_left (p x) (list_any p (take n xs)) none) in
    let rest = map_passed p f same xs n (or_right (p x) (list_any p (take n xs)) none) in
    rw (this, rest) refl

-- and so does one of positions, by their items
pub positions_passed : (p : Item → Bool) (f : Item → GlyphPosition → GlyphPosition) → ((x : Item) (q : GlyphPosition) → p x ≡ false → f x q ≡ q)
    → (xs : List Item) (qs : List GlyphPosition) (n : ℕ) → length qs ≡ length xs → list_any p (take n xs) ≡ false
    → positions_over f (take n xs) (take n qs) ++ drop n qs ≡ qs
positions_passed p f same xs qs zero as_many none = refl
positions_passed p f same [] [] (suc n) as_many none = refl
positions_passed p f same [] (q ∷ qs) (suc n) as_many none = absurd (omega (arith, as_many))
positions_passed p f same (x ∷ xs) [] (suc n) as_many none = absurd (omega (arith, as_many))
positions_passed p f same (x ∷ xs) (q ∷ qs) (suc n) as_many none =
    let this = same x q (or_left (p x) (list_any p (take n xs)) none) in
    let rest = positions_passed p f same xs qs n (omega (arith, as_many)) (or_right (p x) (list_any p (take n xs)) none) in
    rw (this, rest) refl
