-- digests of the tags of features
use Prim.Native.Nat.{zero}
use Rattle.std.proofs.Common.{◌≡◌, ◌≢◌, ℕ, suc, List, Bool, true, false, Option, Some, None, ◌+◌, ◌*◌, ◌/◌, ◌%◌, ◌^◌, ◌<◌, ◌&&◌, max, nat_eq, nat_lt, cond, refl, sym, ap, subst, ◌∙◌, arith, bit_and, bit_or}
use Rattle.std.proofs.lemmas.Bool.Decides.{nat_tests}
use Rattle.std.proofs.lemmas.Nat.{one_shl}
use Rattle.std.proofs.lemmas.Nat.Bits.{shr_and_one, bit_at_or, bit_at-zero, bit_at-pow_same, bit_at-pow_other, bit_at-lt}
use Rattle.std.specs.Int.{bit_at}
use Rattle.shape_font.specs.Bytes.{u16_of, fitting}
use Rattle.shape_font.specs.Search.{first_at}
use Rattle.layout_tables.specs.Features.{tag_place, may_hold, KeepsTags, HoldsFirst, HoldsListed, HasOnlyFirst, feature_tag_of, listed_tag_of, has_tag, has_feature_tag, feature_index_of}

pub tested : (digest tag : ℕ) → nat_eq (bit_and (digest / 2 ^ tag_place tag) 1) 1 ≡ may_hold digest tag
unfolding may_hold
tested digest tag = ap (λ x. nat_eq x 1) (shr_and_one digest (tag_place tag))

bit_of : (digest tag : ℕ) → may_hold digest tag ≡ true → bit_at digest (tag_place tag) ≡ 1
unfolding may_hold
bit_of digest tag is = grind (arith, nat_tests, is)

has_of : (digest tag : ℕ) → bit_at digest (tag_place tag) ≡ 1 → may_hold digest tag ≡ true
unfolding may_hold
has_of digest tag is = ap (λ x. nat_eq x 1) is

pub set_before : (a b tag : ℕ) → may_hold a tag ≡ true → may_hold (bit_or a b) tag ≡ true
set_before a b tag x =
    let i = bit_of a tag x in
    let j = bit_at-lt b (tag_place tag) in
    has_of (bit_or a b) tag (bit_at_or a b (tag_place tag) ∙ omega (arith, i, j))

pub bit_set : (digest tag place : ℕ) → place ≡ tag_place tag → place < 64
    → may_hold (bit_or digest (1 * 2 ^ place % 18446744073709551616)) tag ≡ true
bit_set digest tag place is inside =
    let bit : ℕ = 1 * 2 ^ place % 18446744073709551616 in
    let whole : bit ≡ 2 ^ place = one_shl place 64 inside in
    let i = bit_at-lt digest (tag_place tag) in
    let j : bit_at bit (tag_place tag) ≡ 1 = ap (λ b. bit_at b (tag_place tag)) (whole ∙ ap (λ k. 2 ^ k) is) ∙ bit_at-pow_same (tag_place tag) in
    has_of (bit_or digest bit) tag (bit_at_or digest bit (tag_place tag) ∙ omega (arith, i, j))

-- and no other bit is set
pub other_bits : (digest tag place other : ℕ) → place ≡ tag_place tag → place < 64 → tag_place other ≢ tag_place tag
    → may_hold (bit_or digest (1 * 2 ^ place % 18446744073709551616)) other ≡ may_hold digest other
unfolding may_hold
other_bits digest tag place other is inside apart =
    let bit : ℕ = 1 * 2 ^ place % 18446744073709551616 in
    let whole : bit ≡ 2 ^ place = one_shl place 64 inside in
    let away : bit_at bit (tag_place other) ≡ 0 =
    ap (λ b. bit_at b (tag_place other)) whole ∙ bit_at-pow_other place (tag_place other) (λ same. apart (same ∙ is)) in
    ap (λ x. nat_eq x 1) (bit_at_or digest bit (tag_place other) ∙ omega (arith, away))

-- an empty digest
pub none_yet : (t : List ℕ) (lang_sys : ℕ) → HasOnlyFirst t lang_sys 0 0
unfolding may_hold
none_yet t lang_sys tag none = ap (λ x. nat_eq x 1) (bit_at-zero (tag_place tag))

-- a digest of one feature more has its bit more
pub only_more : (t : List ℕ) (lang_sys n d e : ℕ) → HasOnlyFirst t lang_sys n d
    → ((other : ℕ) → tag_place other ≢ tag_place (listed_tag_of t lang_sys n) → may_hold e other ≡ may_hold d other)
    → HasOnlyFirst t lang_sys (n + 1) e
only_more t lang_sys n d e before new tag none =
    let last : n < n + 1 = omega arith in
    new tag (λ same. none n last (sym same)) ∙ before tag (λ i less. none i (omega (arith, less)))

-- none of `n` from `i` on, nor the one after them
none_more : (p : ℕ → Bool) (n i : ℕ) → first_at p n i ≡ None → p (i + n) ≡ false → first_at p (suc n) i ≡ None
none_more p zero i none last =
    let e : i ≡ i + 0 = omega arith in
    let is : p i ≡ false = ap p e ∙ last in
    rw is refl
none_more p (suc n) i none last =
    let e : suc i + n ≡ i + suc n = omega arith in
    by_first (λ rest. none_more p n (suc i) rest (ap p e ∙ last)) (p i) refl none
  where
    by_first : (first_at p n (suc i) ≡ None → first_at p (suc n) (suc i) ≡ None) → (t : Bool) → p i ≡ t
        → cond t (Some i) (first_at p n (suc i)) ≡ None → first_at p (suc (suc n)) i ≡ None
    by_first rest true is at = cc
    by_first rest false is at = rw is (rest at)

lacks_before : (d e tag : ℕ) → KeepsTags d e → may_hold e tag ≡ false → may_hold d tag ≡ false
lacks_before d e tag kept lacks = by_test (may_hold d tag) refl
  where
    by_test : (t : Bool) → may_hold d tag ≡ t → may_hold d tag ≡ false
    by_test true is = let there = kept tag is in cc
    by_test false is = is

and_false : (b : Bool) → (b && false) ≡ false
and_false true = refl
and_false false = refl

other_tag : (t : List ℕ) (lang_sys n e tag : ℕ) → may_hold e (listed_tag_of t lang_sys n) ≡ true → may_hold e tag ≡ false
    → has_feature_tag t lang_sys tag n ≡ false
other_tag t lang_sys n e tag new lacks = by_test (nat_eq (listed_tag_of t lang_sys n) tag) refl
  where
    by_test : (u : Bool) → nat_eq (listed_tag_of t lang_sys n) tag ≡ u → has_feature_tag t lang_sys tag n ≡ false
    by_test true is =
        let same : listed_tag_of t lang_sys n ≡ tag = grind (arith, nat_tests, is) in
        let there : may_hold e tag ≡ true = subst (λ x. may_hold e x ≡ true) same new in
        cc
    by_test false is = ap (λ b. nat_lt 0 tag && b) is ∙ and_false (nat_lt 0 tag)

-- a digest of one feature more
pub one_more : (t : List ℕ) (lang_sys n d e : ℕ) → HoldsFirst t lang_sys n d → KeepsTags d e
    → may_hold e (listed_tag_of t lang_sys n) ≡ true → HoldsFirst t lang_sys (n + 1) e
one_more t lang_sys n d e before kept new tag lacks =
    let next : suc n ≡ n + 1 = omega arith in
    let here : 0 + n ≡ n = omega arith in
    let other : has_feature_tag t lang_sys tag (0 + n) ≡ false =
    ap (has_feature_tag t lang_sys tag) here ∙ other_tag t lang_sys n e tag new lacks in
    subst (λ k. first_at (has_feature_tag t lang_sys tag) k 0 ≡ None) next
    (none_more (has_feature_tag t lang_sys tag) n 0 (before tag (lacks_before d e tag kept lacks)) other)

-- the first features of a language system, as many as the table has room for, are all that it lists
pub first_are_listed : (t : List ℕ) (lang_sys digest : ℕ) → HoldsFirst t lang_sys (fitting t (u16_of t (lang_sys + 4)) (lang_sys + 6) 2) digest
    → HoldsListed t lang_sys digest
first_are_listed t lang_sys digest first tag lacks = rw (first tag lacks) refl
