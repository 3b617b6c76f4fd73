-- digests of tags in cases worked out by hand
use Rattle.std.proofs.Common.{◌≡◌, ◌≢◌, ℕ, ◌<◌, Some, None, true, false, nat_eq, refl, sym, ap, subst, arith, lit<}
use Rattle.std.proofs.lemmas.Nat.Bits.{bit_at-pow_other}
use Rattle.layout_tables.proofs.DigestLemmas.{none_yet}
use Rattle.layout_tables.specs.Features.{tag_place, may_hold, listed_tag_of}
use Rattle.layout_tables.specs.Worked.Features.{KERN, LIGA, two_features, WorkedTagDigests}

-- the first place alone is below 1
at_first : (P : ℕ → Type 0) → P 0 → (i : ℕ) → i < 1 → P i
at_first P first i less = let e : 0 ≡ i = omega (arith, less) in subst P e first

-- it is that of `liga`, whose bit isn't that of `kern`
apart : (lang_sys : ℕ) → tag_place (listed_tag_of two_features lang_sys 0) ≡ 54
    → (i : ℕ) → i < 1 → tag_place (listed_tag_of two_features lang_sys i) ≢ tag_place KERN
apart lang_sys liga =
    at_first (λ i. tag_place (listed_tag_of two_features lang_sys i) ≢ tag_place KERN)
    (λ same. let kern : tag_place (listed_tag_of two_features lang_sys 0) ≡ 43 = same in omega (arith, liga, kern))

pub worked_tag_digests : WorkedTagDigests
unfolding may_hold
worked_tag_digests = record {
  only_liga = λ tag none. ap (λ x. nat_eq x 1) (bit_at-pow_other 54 (tag_place tag) (λ same. none 0 (lit< tt) (sym same)));
  not_kern = λ only. let wrong : true ≡ false = only KERN (apart 50 refl) in cc;
  of_none = none_yet two_features 38;
  not_the_second = λ only. let wrong : true ≡ false = only KERN (apart 38 refl) in cc;
  not_held = λ held. let wrong : Some 1 ≡ None = held LIGA refl in cc;
  lost = λ keeps. let wrong : false ≡ true = keeps LIGA refl in cc;
}
