-- a number times one is itself
use Rattle.std.proofs.Common.{◌≡◌, suc, ℤ, pos, negsuc, ◌+◌, ◌-◌, ◌*◌, ◌/◌, true, false, nat_lt, int_lt, ap, refl, arith}
use lib.IntN.{zero-*ℤ}
use Rattle.std.specs.Ordering.{int_eq}
use Rattle.std.proofs.lemmas.Int.{ints}
use Rattle.std.proofs.lemmas.Bool.Decides.{nat_tests}
use Rattle.font_sizes.specs.Laws.{ChangesNothing}
use Rattle.font_sizes.specs.Factors.{nearest, if_short}
use Rattle.font_sizes.specs.Scales.{times}
use Rattle.font_sizes.specs.declared.scales.Axis.{Axis}

pub nearest_whole : (n : ℤ) → nearest (pos 65536) n ≡ n
unfolding nearest
nearest_whole (pos a) =
    let q : (a * 65536 + 32768) / 65536 ≡ a = omega arith in
    ap pos q
nearest_whole (negsuc a) =
    let m : suc a * 65536 ≡ suc (a * 65536 + 65535) = omega arith in
    let more : nat_lt 32768 (suc (a * 65536 + 65535)) ≡ true = grind (arith, nat_tests) in
    let q : (suc (a * 65536 + 65535) - suc 32768) / 65536 ≡ a = omega arith in
    rw m (rw more (ap negsuc q))

pub stays : ChangesNothing
unfolding if_short
stays n units low high =
    let same : int_eq (pos units) (pos units) ≡ true = grind (arith, nat_tests) in
    let above : int_lt n (negsuc 2147483647) ≡ false = grind (arith, ints, low) in
    let below : int_lt (pos 2147483647) n ≡ false = grind (arith, ints, high) in
    rw (same, nearest_whole n) (rw (above, below) refl)

-- 0 stays 0 at any size
pub times_zero : (a : Axis) → times a (pos 0) ≡ pos 0
unfolding nearest if_short
times_zero a = rw (zero-*ℤ a.factor.fixed) refl
