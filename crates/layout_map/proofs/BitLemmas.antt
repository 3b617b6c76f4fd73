-- Powers of two, bits that are apart, and masks without the flags of glyphs.
use Rattle.std.proofs.Common.{◌≡◌, ℕ, ◌+◌, ◌-◌, ◌*◌, ◌%◌, ◌^◌, ◌≤◌, ◌<◌, ◌∙◌, refl, sym, ap, subst, arith}
use Rattle.std.proofs.lemmas.Nat.{and_mask, and_block, and_le_l, and_le_r, and_mod, one_shl, pow_pos, shl_whole, shl_below}
use Rattle.std.proofs.Math.Nat.{pow-le-pow_right}
use Rattle.std.specs.Int.RustNames.{bit_and}
use Rattle.shape_buffer.specs.Layout.{HasNoDefinedFlag}
use Rattle.layout_map.specs.Features.{bits_from, mask_of}

pub powers_grow : (p n : ℕ) → 2 ^ p ≤ 2 ^ (p + n)
powers_grow p n = pow-le-pow_right {n = 2} (omega arith) {i = p} {j = p + n} (omega arith)

pub unit_whole : (p : ℕ) → p < 32 → 1 * 2 ^ p % 2 ^ 32 ≡ 2 ^ p
unit_whole p inside = one_shl p 32 inside

-- `n` bits below 2 ^ n
low_bits : (n : ℕ) → 2 ^ n - 1 < 2 ^ n
low_bits n = omega (arith, pow_pos n)

-- bits that a mask has room for are not cut
pub bits_whole : (p n : ℕ) → p + n < 27 → (2 ^ n - 1) * 2 ^ p % 2 ^ 32 ≡ (2 ^ n - 1) * 2 ^ p
bits_whole p n room = shl_whole (2 ^ n - 1) n p 32 (low_bits n) (omega (arith, room))

-- they stand below the next place
pub bits_below : (p n : ℕ) → bits_from p n < 2 ^ (p + n)
bits_below p n =
    let e : n + p ≡ p + n = omega arith in
    let low : bits_from p n < 2 ^ (n + p) = shl_below (2 ^ n - 1) n p (low_bits n) in
    subst (λ k. bits_from p n < 2 ^ k) e low

pub and_zero_left : (b : ℕ) → bit_and 0 b ≡ 0
and_zero_left b = omega (arith, and_le_l 0 b)

pub and_zero_right : (a : ℕ) → bit_and a 0 ≡ 0
and_zero_right a = omega (arith, and_le_r a 0)

-- what is below a place has none of the bits from there on
pub apart_from : (a p n : ℕ) → a < 2 ^ p → bit_and a (bits_from p n) ≡ 0
apart_from a p n low =
    let whole : bit_and (0 * 2 ^ p + a) ((2 ^ n - 1) * 2 ^ p + 0) ≡ bit_and 0 (2 ^ n - 1) * 2 ^ p + bit_and a 0 =
    and_block p 0 (2 ^ n - 1) a 0 low (pow_pos p) in
    let first : a ≡ 0 * 2 ^ p + a = omega arith in
    let second : bits_from p n ≡ (2 ^ n - 1) * 2 ^ p + 0 = omega arith in
    let none : bit_and 0 (2 ^ n - 1) * 2 ^ p + bit_and a 0 ≡ 0 =
    ap (λ k. k * 2 ^ p + bit_and a 0) (and_zero_left (2 ^ n - 1)) ∙ ap (λ k. 0 * 2 ^ p + k) (and_zero_right a) ∙ omega arith in
    ap (λ k. bit_and k (bits_from p n)) first ∙ ap (λ k. bit_and (0 * 2 ^ p + a) k) second ∙ whole ∙ none

-- bits that are apart are so in their place in a mask
pub masks_apart : (a b : ℕ) → bit_and a b ≡ 0 → bit_and (mask_of a) (mask_of b) ≡ 0
masks_apart a b apart =
    let whole : bit_and (a * 2 ^ 4 + 0) (b * 2 ^ 4 + 0) ≡ bit_and a b * 2 ^ 4 + bit_and 0 0 =
    and_block 4 a b 0 0 (omega arith) (omega arith) in
    let first : a * 2 ^ 4 ≡ a * 2 ^ 4 + 0 = omega arith in
    let second : b * 2 ^ 4 ≡ b * 2 ^ 4 + 0 = omega arith in
    let none : bit_and a b * 2 ^ 4 + bit_and 0 0 ≡ 0 = ap (λ k. k * 2 ^ 4 + bit_and 0 0) apart ∙ refl in
    let shifted : bit_and (a * 2 ^ 4) (b * 2 ^ 4) ≡ 0 =
    ap (λ k. bit_and k (b * 2 ^ 4)) first ∙ ap (λ k. bit_and (a * 2 ^ 4 + 0) k) second ∙ whole ∙ none in
    sym (and_mod (a * 2 ^ 4) (b * 2 ^ 4) 32) ∙ ap (λ k. k % 2 ^ 32) shifted

pub mask_is_free : (bits : ℕ) → HasNoDefinedFlag (bits * 2 ^ 4 % 2 ^ 32)
mask_is_free bits =
    let mask : ℕ = bits * 2 ^ 4 % 2 ^ 32 in
    let low : bit_and mask 7 ≡ mask % 8 = and_mask mask 3 in
    low ∙ omega arith
