-- scalars lie within 0 and 1
use Prim.Native.Nat.{zero}
use Rattle.std.proofs.Common.{◌≡◌, ℕ, suc, ℤ, pos, negsuc, ◌<◌, ◌≤◌, ◌+◌, ◌*◌, ◌^◌, ◌≤ℤ◌, ◌<ℤ◌, ◌-ℤ◌, Bool, true, false, cond, List, length, nat_lt, refl, sym, subst, ◌∙◌, arith}
use Rattle.std.specs.Prelude.{◌&&◌, ◌||◌, T, int_lt, int_le, slice_index}
use Rattle.std.specs.Float.{Float, binary32, nan, inf, fin}
use Rattle.std.specs.Ordering.{int_eq}
use Rattle.std.proofs.lemmas.Bool.Decides.{nat_tests}
use Rattle.std.proofs.lemmas.Int.{ints}
use Rattle.std.proofs.lemmas.List.{get_or_past}
use lib.Count.{count_trailing_zeros}
use lib.Dec.{ltb, eqb, ltb→lt, eqb→eq}
use lib.Ieee.{up, down, low, round, size, span, climb, units, odd, of_int, div, mul, le, lt, eq, of_bits, of_fields}
use lib.Ieee.Exact.{HasValue}
use lib.Ieee.Back.{round_whole}
use lib.Ieee.Fits.{down_pos}
use lib.Ieee.Order.{round_mono}
use lib.Ieee.Positive.{first_pos}
use lib.Ieee.Scale.{finite, grid, round_val, round_under}
use mathlib.Core.Bool.{true≢false}
use native.Mathlib.Nat.{mul-one, mul-pos, mul_right_comm, mul-le-mul, mul-le-mul_right, le_trans, le_of_eq}
use Rattle.font_bytes.specs.Bytes.{u16_of, i16_of}
use Rattle.font_variations.specs.Laws.{IsPart, AreBytes, AxesArePart, RegionsArePart}
use Rattle.font_variations.specs.Regions.{axis_scalar, coordinate_of, is_whole, product_from, region_at, region_scalar}
use Rattle.font_variations.specs.Tents.{nothing, whole, ratio, is_malformed, slope, tent}

-- ---- a fraction of at most 1, rounded

le_from_tests : (a b : ℕ) (r : Bool) → T (ltb a b || (eqb a b && r)) → a ≤ b
le_from_tests a b r h = go (ltb a b) (eqb a b) (ltb→lt a b) (eqb→eq a b) h
  where
    go : (x y : Bool) → (T x → a < b) → (T y → a ≡ b) → T (x || (y && r)) → a ≤ b
    go true y f g t = omega (arith, f tt)
    go false true f g t = le_of_eq (g tt)
    go false false f g t = absurd t

one_over_one : round binary32 false 1 1 ≡ fin false 1 (pos 0)
unfolding round size span climb units odd count_trailing_zeros
one_over_one = refl

none_over_one : round binary32 false 0 1 ≡ fin false 0 (pos 0)
unfolding round size span climb units odd count_trailing_zeros
none_over_one = refl

-- a number with a value is finite and has its sign
part_from_value : (x : Float) (a c : ℕ) → HasValue x false a c → T (le x (fin false 1 (pos 0))) → IsPart x
unfolding IsPart le lt eq
part_from_value nan a c v h = absurd v
part_from_value (inf s) a c v h = absurd v
part_from_value (fin true m e) a c v h = absurd (true≢false v.0)
part_from_value (fin false m e) a c v h =
    let l : m * up e * 1 ≤ 1 * 1 * down e = le_from_tests _ _ _ h in
    omega (arith, l)

finite_between : (x : Float) → T (le (fin false 0 (pos 0)) x) → T (le x (fin false 1 (pos 0))) → T (finite x)
unfolding le lt eq
finite_between nan low_side h = absurd h
finite_between (inf true) low_side h = absurd low_side
finite_between (inf false) low_side h = absurd h
finite_between (fin s m e) low_side h = tt

pub round_part : (a b : ℕ) → 0 < b → a ≤ b → IsPart (round binary32 false a b)
round_part a b B h =
    let low_side : T (le (fin false 0 (pos 0)) (round binary32 false a b))
    = subst (λ (z : Float). T (le z (round binary32 false a b))) none_over_one (round_mono binary32 0 1 a b (omega arith) B (omega arith)) in
    let high_side : T (le (round binary32 false a b) (fin false 1 (pos 0)))
    = subst (λ (z : Float). T (le (round binary32 false a b) z)) one_over_one (round_mono binary32 a b 1 1 B (omega arith) (omega (arith, h))) in
    let under = round_under binary32 a b (finite_between (round binary32 false a b) low_side high_side) in
    part_from_value (round binary32 false a b) (grid binary32 a b) (2 ^ low binary32) (round_val binary32 a b under) high_side

-- ---- products

pub mul_part : (x y : Float) → IsPart x → IsPart y → IsPart (mul binary32 x y)
unfolding IsPart mul
mul_part nan y p q = absurd p
mul_part (inf s) y p q = absurd p
mul_part (fin true m e) y p q = absurd p
mul_part (fin false m e) nan p q = absurd q
mul_part (fin false m e) (inf t) p q = absurd q
mul_part (fin false m e) (fin true n d) p q = absurd q
mul_part (fin false m e) (fin false n d) p q =
    round_part (m * up e * (n * up d)) (down e * down d) (mul-pos (down_pos e) (down_pos d)) (mul-le-mul p q)

-- ---- quotients

not_zero : (n : ℕ) → 0 < n → eqb n 0 ≡ false
not_zero n h = grind (arith, nat_tests)

cross_le : (a b u v : ℕ) → a ≤ b → a * u * v ≤ b * v * u
cross_le a b u v h = le_trans (le_of_eq (mul_right_comm a u v)) (mul-le-mul_right u (mul-le-mul_right v h))

div_part : (x y : Float) (a b : ℕ) → HasValue x false a 1 → HasValue y false b 1 → 0 < b → a ≤ b → IsPart (div binary32 x y)
unfolding div
div_part nan y a b p q B h = absurd p
div_part (inf s) y a b p q B h = absurd p
div_part (fin true m e) y a b p q B h = absurd (true≢false p.0)
div_part (fin false m e) nan a b p q B h = absurd q
div_part (fin false m e) (inf t) a b p q B h = absurd q
div_part (fin false m e) (fin true n d) a b p q B h = absurd (true≢false q.0)
div_part (fin false m e) (fin false n d) a b p q B h =
    let x : m * up e ≡ a * down e = sym (mul-one (m * up e)) ∙ p.1 in
    let y : n * up d ≡ b * down d = sym (mul-one (n * up d)) ∙ q.1 in
    let some : 0 < n * up d = subst (λ (k : ℕ). 0 < k) (sym y) (mul-pos B (down_pos d)) in
    let less : m * up e * down d ≤ n * up d * down e =
    subst (λ (k : ℕ). k * down d ≤ n * up d * down e) (sym x)
    (subst (λ (k : ℕ). a * down e * down d ≤ k * down e) (sym y) (cross_le a b (down e) (down d) h)) in
    rw (not_zero n (first_pos n (up d) some)) (round_part (m * up e * down d) (n * up d * down e) (mul-pos some (down_pos e)) less)

pub ratio_of_naturals : (a b : ℕ) → 0 < b → a ≤ b → b ≤ 131071 → IsPart (ratio (pos a) (pos b))
unfolding ratio of_int
ratio_of_naturals a b B h few =
    div_part (round binary32 false a 1) (round binary32 false b 1) a b
    (round_whole binary32 false a (omega (arith, h, few))) (round_whole binary32 false b (omega (arith, few))) B h

pub ratio_part : (a b : ℤ) → pos 0 ≤ℤ a → a ≤ℤ b → pos 0 <ℤ b → b ≤ℤ pos 131071 → IsPart (ratio a b)
ratio_part (pos a) (pos b) p h B few = ratio_of_naturals a b (omega (arith, ints, B)) (omega (arith, ints, h)) (omega (arith, ints, few))
ratio_part (pos a) (negsuc b) p h B few = absurd (omega (arith, ints, B))
ratio_part (negsuc a) b p h B few = absurd (omega (arith, ints, p))

pub whole_part : IsPart whole
unfolding IsPart of_bits of_fields odd count_trailing_zeros
whole_part = omega arith

pub nothing_part : IsPart nothing
unfolding IsPart of_bits of_fields odd count_trailing_zeros
nothing_part = omega arith

-- ---- tents

pub slope_part : (x : Float) (start peak end coordinate : ℤ) → x ≡ slope start peak end coordinate
    → negsuc 32767 ≤ℤ start → end ≤ℤ pos 32767 → start ≤ℤ peak → peak ≤ℤ end → IsPart x
slope_part x start peak end coordinate is low high rises falls =
    let P : Bool → Type 0 = λ t. int_le coordinate start ≡ t → IsPart (slope start peak end coordinate) in
    let cases : P (int_le coordinate start) = elim (int_le coordinate start) as P [
      | true ↦ λ t. rw t nothing_part
      | false ↦ λ t. rw t (before_the_end t)
    ] in
    subst IsPart (sym is) (cases refl)
  where
    up_or_down : start <ℤ coordinate → coordinate <ℤ end → (b : Bool) → int_lt coordinate peak ≡ b
        → IsPart (cond b (ratio (coordinate -ℤ start) (peak -ℤ start)) (ratio (end -ℤ coordinate) (end -ℤ peak)))
    up_or_down above below true t =
        let rising : coordinate <ℤ peak = grind (arith, ints) in
        ratio_part (coordinate -ℤ start) (peak -ℤ start) (omega (arith, ints)) (omega (arith, ints)) (omega (arith, ints)) (omega (arith, ints))
    up_or_down above below false t =
        let falling : peak ≤ℤ coordinate = grind (arith, ints) in
        ratio_part (end -ℤ coordinate) (end -ℤ peak) (omega (arith, ints)) (omega (arith, ints)) (omega (arith, ints)) (omega (arith, ints))

    within : start <ℤ coordinate → (b : Bool) → int_le end coordinate ≡ b
        → IsPart (cond b nothing (cond (int_lt coordinate peak) (ratio (coordinate -ℤ start) (peak -ℤ start)) (ratio (end -ℤ coordinate) (end -ℤ peak))))
    within above true t = nothing_part
    within above false t =
        let below : coordinate <ℤ end = grind (arith, ints) in
        up_or_down above below (int_lt coordinate peak) refl

    before_the_end : int_le coordinate start ≡ false
        → IsPart (cond (int_le end coordinate) nothing (cond (int_lt coordinate peak) (ratio (coordinate -ℤ start) (peak -ℤ start)) (ratio (end -ℤ coordinate) (end -ℤ peak))))
    before_the_end t =
        let above : start <ℤ coordinate = grind (arith, ints) in
        within above (int_le end coordinate) refl

pub tent_part : AxesArePart
unfolding tent
tent_part start peak end coordinate low high = tested (int_eq peak (pos 0) || int_eq coordinate peak) (int_eq coordinate (pos 0)) (is_malformed start peak end) refl
  where
    tested : (a b c : Bool) → is_malformed start peak end ≡ c → IsPart (cond a whole (cond b nothing (cond c whole (slope start peak end coordinate))))
    tested true b c t = whole_part
    tested false true c t = nothing_part
    tested false false true t = whole_part
    tested false false false t =
        slope_part (slope start peak end coordinate) start peak end coordinate refl low high (grind (arith, ints)) (grind (arith, ints))

-- ---- regions of a table of bytes

pub byte_small : (t : List ℕ) (at : ℕ) → AreBytes t → slice_index t at < 256
byte_small t at bytes = tested (nat_lt at (length t)) refl
  where
    tested : (b : Bool) → nat_lt at (length t) ≡ b → slice_index t at < 256
    tested true h = bytes at 0 (grind (arith, nat_tests))
    tested false h =
        let past : length t ≤ at = grind (arith, nat_tests) in
        subst (λ (n : ℕ). n < 256) (sym (get_or_past t at 0 past)) (omega arith)

pub u16_small : (t : List ℕ) (at : ℕ) → AreBytes t → u16_of t at < 65536
u16_small t at bytes =
    let first = byte_small t at bytes in
    let second = byte_small t (at + 1) bytes in
    omega (arith, first, second)

signed_low : (n : ℕ) (b : Bool) → nat_lt n 32768 ≡ b → negsuc 32767 ≤ℤ cond b (pos n) (pos n -ℤ pos 65536)
signed_low n true t = omega (arith, ints)
signed_low n false t = let high : 32768 ≤ n = grind (arith, nat_tests) in omega (arith, ints, high)

signed_high : (n : ℕ) (b : Bool) → n < 65536 → nat_lt n 32768 ≡ b → cond b (pos n) (pos n -ℤ pos 65536) ≤ℤ pos 32767
signed_high n true h t = let low : n < 32768 = grind (arith, nat_tests) in omega (arith, ints, low)
signed_high n false h t = omega (arith, ints, h)

pub i16_low : (t : List ℕ) (at : ℕ) → negsuc 32767 ≤ℤ i16_of t at
unfolding i16_of
i16_low t at = signed_low (u16_of t at) (nat_lt (u16_of t at) 32768) refl

pub i16_high : (t : List ℕ) (at : ℕ) → AreBytes t → i16_of t at ≤ℤ pos 32767
unfolding i16_of
i16_high t at bytes = signed_high (u16_of t at) (nat_lt (u16_of t at) 32768) (u16_small t at bytes) refl

product_part : (p : ℕ → Float) → ((i : ℕ) → IsPart (p i)) → (n i : ℕ) (x : Float) → IsPart x → IsPart (product_from p n i x)
product_part p each zero i x h = h
product_part p each (suc n) i x h = elim (eq (p i) nothing) as (λ b. IsPart (cond b nothing (product_from p n (suc i) (mul binary32 x (p i))))) [
  | true ↦ nothing_part
  | false ↦ product_part p each n (suc i) (mul binary32 x (p i)) (mul_part x (p i) h (each i))
]

pub regions_part : RegionsArePart
unfolding region_scalar axis_scalar
regions_part t list region coordinates bytes = tested (is_whole t list && nat_lt region (u16_of t (list + 2)))
  where
    at : ℕ
    at = region_at t list region

    each : (axis : ℕ) → IsPart (axis_scalar t coordinates at axis)
    each axis = tent_part (i16_of t (at + 6 * axis)) (i16_of t (at + 6 * axis + 2)) (i16_of t (at + 6 * axis + 4)) (coordinate_of coordinates axis)
        (i16_low t (at + 6 * axis)) (i16_high t (at + 6 * axis + 4) bytes)

    tested : (b : Bool) → IsPart (cond b (product_from (axis_scalar t coordinates at) (u16_of t list) 0 whole) nothing)
    tested true = product_part (axis_scalar t coordinates at) each (u16_of t list) 0 whole whole_part
    tested false = nothing_part
