-- bits of words, and sets of glyphs in six of them
use Rattle.std.proofs.Common.{◌≡◌, ℕ, Bool, true, false, ◌+◌, ◌-◌, ◌*◌, ◌/◌, ◌%◌, ◌^◌, ◌≤◌, ◌<◌, ◌&&◌, min, nat_eq, nat_le, refl, sym, ap, ◌∙◌, arith, bit_and, bit_or}
use Rattle.std.proofs.lemmas.Bool.Decides.{nat_tests}
use Rattle.std.proofs.lemmas.Nat.{pow_pos, pow-add}
use Rattle.std.proofs.lemmas.Nat.Bits.{bit_at_and, bit_at_or, bit_at-zero, bit_at-pow_same, bit_at_ones, bit_at_mask_inside, bit_at-lt}
use Rattle.std.specs.Int.{bit_at}
use Rattle.layout_digests.specs.declared.digest.Digest.{Digest}
use Rattle.layout_matching.specs.Firsts.{has_bit, KeepsBits, may_begin}
use Rattle.layout_matching.proofs.FirstLemmas.{bit_of, has_of, all_set, set_before, set_after}
use Rattle.layout_digests.specs.Digests.{HasBits, has, HasGlyphs, IsWithin}

-- ---- one word

pub from_on : (k n : ℕ) → k < 64 → k ≤ n % 64 → has_bit (18446744073709551615 - (2 ^ k - 1)) n ≡ true
from_on k n small within =
    let some = pow_pos k in
    let e : 18446744073709551615 - (2 ^ k - 1) ≡ 2 ^ 64 - 2 ^ k = omega (arith, some) in
    let below : n % 64 < 64 = omega arith in
    has_of _ n (ap (λ w. bit_at w (n % 64)) e ∙ bit_at_mask_inside k 64 (n % 64) within below)

pub up_to : (k n : ℕ) → n % 64 ≤ k → has_bit (2 ^ k - 1 + 2 ^ k) n ≡ true
up_to k n within =
    let some = pow_pos k in
    let more : 2 ^ (k + 1) ≡ 2 ^ k * 2 ^ 1 = pow-add 2 k 1 in
    let e : 2 ^ k - 1 + 2 ^ k ≡ 2 ^ (k + 1) - 1 = omega (arith, some, more) in
    has_of _ n (ap (λ w. bit_at w (n % 64)) e ∙ bit_at_ones (k + 1) (n % 64) (omega (arith, within)))

pub set_both : (a b n : ℕ) → has_bit a n ≡ true → has_bit b n ≡ true → has_bit (bit_and a b) n ≡ true
set_both a b n x y =
    let i = bit_of a n x in
    let j = bit_of b n y in
    has_of (bit_and a b) n (bit_at_and a b (n % 64) ∙ omega (arith, i, j))

-- numbers of one block of 64, and of two
pub in_block : (a b first last : ℕ) → first / 64 ≡ last / 64 → ((n : ℕ) → first % 64 ≤ n % 64 → has_bit a n ≡ true)
    → ((n : ℕ) → n % 64 ≤ last % 64 → has_bit b n ≡ true) → HasBits (bit_and a b) first last
in_block a b first last same from to n low high =
    set_both a b n (from n (omega (arith, same, low, high))) (to n (omega (arith, same, low, high)))

pub in_two : (a b first last : ℕ) → first / 64 + 1 ≡ last / 64 → ((n : ℕ) → first % 64 ≤ n % 64 → has_bit a n ≡ true)
    → ((n : ℕ) → n % 64 ≤ last % 64 → has_bit b n ≡ true) → HasBits (bit_or a b) first last
in_two a b first last next from to n low high = by_side (nat_le (first % 64) (n % 64)) refl
  where
    by_side : (t : Bool) → nat_le (first % 64) (n % 64) ≡ t → has_bit (bit_or a b) n ≡ true
    by_side true e = set_before a b n (from n (grind (arith, nat_tests, e)))
    by_side false e =
        let behind : n % 64 < first % 64 = grind (arith, nat_tests, e) in
        set_after a b n (to n (omega (arith, next, low, high, behind)))

-- ---- six words

has_all : (d : Digest) (g : ℕ) → has_bit d.fine g ≡ true → has_bit d.halves (g / 2) ≡ true → has_bit d.quarters (g / 4) ≡ true
    → has_bit d.middle (g / 16) ≡ true → has_bit d.blocks (g / 64) ≡ true → has_bit d.coarse (g / 512) ≡ true → has d g ≡ true
unfolding has
has_all d g x y z u v w = rw (x, y, z, u, v, w) refl

fine_of : (d : Digest) (g : ℕ) → has d g ≡ true → has_bit d.fine g ≡ true
unfolding has
fine_of d g is = grind (arith, is)

halves_of : (d : Digest) (g : ℕ) → has d g ≡ true → has_bit d.halves (g / 2) ≡ true
unfolding has
halves_of d g is = grind (arith, is)

quarters_of : (d : Digest) (g : ℕ) → has d g ≡ true → has_bit d.quarters (g / 4) ≡ true
unfolding has
quarters_of d g is = grind (arith, is)

middle_of : (d : Digest) (g : ℕ) → has d g ≡ true → has_bit d.middle (g / 16) ≡ true
unfolding has
middle_of d g is = grind (arith, is)

blocks_of : (d : Digest) (g : ℕ) → has d g ≡ true → has_bit d.blocks (g / 64) ≡ true
unfolding has
blocks_of d g is = grind (arith, is)

coarse_of : (d : Digest) (g : ℕ) → has d g ≡ true → has_bit d.coarse (g / 512) ≡ true
unfolding has
coarse_of d g is = grind (arith, is)

pub all_glyphs : (g : ℕ) → has (record {
  fine = 18446744073709551615;
  halves = 18446744073709551615;
  quarters = 18446744073709551615;
  middle = 18446744073709551615;
  blocks = 18446744073709551615;
  coarse = 18446744073709551615;
}) g ≡ true
all_glyphs g = has_all _ g (all_set g) (all_set (g / 2)) (all_set (g / 4)) (all_set (g / 16)) (all_set (g / 64)) (all_set (g / 512))

pub glyph_in : (d : Digest) (g : ℕ) → has_bit d.fine g ≡ true → ((n : ℕ) → has_bit d.halves n ≡ true)
    → ((n : ℕ) → has_bit d.quarters n ≡ true) → has_bit d.middle (g / 16) ≡ true → ((n : ℕ) → has_bit d.blocks n ≡ true)
    → has_bit d.coarse (g / 512) ≡ true → has d g ≡ true
glyph_in d g fine halves quarters middle blocks coarse = has_all d g fine (halves (g / 2)) (quarters (g / 4)) middle (blocks (g / 64)) coarse

pub ranged : (d : Digest) (first last : ℕ) → HasBits d.fine first last → HasBits d.halves (first / 2) (last / 2)
    → HasBits d.quarters (first / 4) (last / 4) → HasBits d.middle (first / 16) (last / 16)
    → HasBits d.blocks (first / 64) (last / 64) → HasBits d.coarse (first / 512) (last / 512) → HasGlyphs d first last
ranged d first last fine halves quarters middle blocks coarse g low high =
    has_all d g (fine g low high) (halves (g / 2) (omega (arith, low)) (omega (arith, high)))
    (quarters (g / 4) (omega (arith, low)) (omega (arith, high))) (middle (g / 16) (omega (arith, low)) (omega (arith, high)))
    (blocks (g / 64) (omega (arith, low)) (omega (arith, high))) (coarse (g / 512) (omega (arith, low)) (omega (arith, high)))

pub kept : (d e : Digest) → KeepsBits d.fine e.fine → KeepsBits d.halves e.halves → KeepsBits d.quarters e.quarters
    → KeepsBits d.middle e.middle → KeepsBits d.blocks e.blocks → KeepsBits d.coarse e.coarse → IsWithin d e
kept d e fine halves quarters middle blocks coarse g is =
    has_all e g (fine g (fine_of d g is)) (halves (g / 2) (halves_of d g is)) (quarters (g / 4) (quarters_of d g is))
    (middle (g / 16) (middle_of d g is)) (blocks (g / 64) (blocks_of d g is)) (coarse (g / 512) (coarse_of d g is))

-- words that share no bit
no_bit : (word n : ℕ) → bit_at word (n % 64) ≡ 0 → has_bit word n ≡ false
unfolding has_bit
no_bit word n is = ap (λ x. nat_eq x 1) is

pub unshared : (a b n : ℕ) → bit_and a b ≡ 0 → has_bit a n ≡ true → has_bit b n ≡ false
unshared a b n none x =
    let i = bit_of a n x in
    let zero_bit : bit_at (bit_and a b) (n % 64) ≡ 0 = ap (λ w. bit_at w (n % 64)) none ∙ bit_at-zero (n % 64) in
    let less : min (bit_at a (n % 64)) (bit_at b (n % 64)) ≡ 0 = sym (bit_at_and a b (n % 64)) ∙ zero_bit in
    no_bit b n (omega (arith, i, less))

has_none : (e : Digest) (g : ℕ) (t : Bool) → has e g ≡ t → (has e g ≡ true → t ≡ false) → has e g ≡ false
has_none e g true said out = said ∙ out said
has_none e g false said out = said

false_true : (x y : Bool) → x ≡ false → x ≡ true → y ≡ false
false_true true y f t = cc
false_true false y f t = cc

pub apart_fine : (d e : Digest) → ((n : ℕ) → has_bit d.fine n ≡ true → has_bit e.fine n ≡ false) → (g : ℕ) → has d g ≡ true → has e g ≡ false
apart_fine d e out g is = has_none e g (has e g) refl
    (λ said. false_true (has_bit e.fine g) (has e g) (out g (fine_of d g is)) (fine_of e g said))

pub apart_middle : (d e : Digest) → ((n : ℕ) → has_bit d.middle n ≡ true → has_bit e.middle n ≡ false) → (g : ℕ) → has d g ≡ true → has e g ≡ false
apart_middle d e out g is = has_none e g (has e g) refl
    (λ said. false_true (has_bit e.middle (g / 16)) (has e g) (out (g / 16) (middle_of d g is)) (middle_of e g said))

pub apart_coarse : (d e : Digest) → ((n : ℕ) → has_bit d.coarse n ≡ true → has_bit e.coarse n ≡ false) → (g : ℕ) → has d g ≡ true → has e g ≡ false
apart_coarse d e out g is = has_none e g (has e g) refl
    (λ said. false_true (has_bit e.coarse (g / 512)) (has e g) (out (g / 512) (coarse_of d g is)) (coarse_of e g said))

-- a glyph that isn't in the three words isn't in the six
pub lacking : (d : Digest) (g : ℕ) → may_begin (record { fine = d.fine; middle = d.middle; coarse = d.coarse }) g ≡ false → has d g ≡ false
lacking d g out = by_held (has d g) refl
  where
    by_held : (t : Bool) → has d g ≡ t → t ≡ false
    by_held false e = refl
    by_held true e =
        let fine = fine_of d g e in
        let middle = middle_of d g e in
        let coarse = coarse_of d g e in
        let held : (has_bit d.fine g && has_bit d.middle (g / 16) && has_bit d.coarse (g / 512)) ≡ true = rw (fine, middle, coarse) refl in
        sym held ∙ out
