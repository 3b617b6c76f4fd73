-- No character past the last pair has a mirror image.
use Rattle.std.proofs.Common.{◌≡◌, ℕ, ◌<◌, ◌==◌, ◌&&◌, nat_le, Bool, true, false, List, [], ◌∷◌, None, refl, ap, arith, option_map}
use Rattle.std.proofs.lemmas.Bool.{and_parts}
use Rattle.std.proofs.lemmas.Bool.Decides.{nat_tests}
use Rattle.std.specs.List.{find, list_all}
use Rattle.shape_unicode.specs.Mirror.{is_one_of, other_one, other_of_pair, is_past_pairs}
use Rattle.shape_unicode.specs.declared.mirror_pairs.TheConstants.{MIRROR_PAIRS}

-- neither of a pair is past a character
abbrev are_within : ℕ → ℕ × ℕ → Bool
are_within most pair = nat_le pair.0 most && nat_le pair.1 most

none_past : (most c : ℕ) → most < c → (pairs : List (ℕ × ℕ)) → list_all (are_within most) pairs ≡ true → find (is_one_of c) pairs ≡ None
none_past most c past [] all = refl
none_past most c past (pair ∷ pairs) all =
    let parts = and_parts (are_within most pair) (list_all (are_within most) pairs) all in
    let both = and_parts (nat_le pair.0 most) (nat_le pair.1 most) parts.0 in
    let low = both.0 in
    let high = both.1 in
    let first : (pair.0 == c) ≡ false = grind (arith, nat_tests, low, past) in
    let second : (pair.1 == c) ≡ false = grind (arith, nat_tests, high, past) in
    rw (first, second) (none_past most c past pairs parts.1)

pub no_pair_past : (c : ℕ) → is_past_pairs c ≡ true → other_of_pair c ≡ None
no_pair_past c past =
    ap (option_map (other_one c)) (none_past 0xFF63 c (grind (arith, nat_tests, past)) MIRROR_PAIRS refl)
