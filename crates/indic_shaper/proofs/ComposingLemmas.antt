-- What the shaper composes is equivalent to its parts by Unicode's splits, if U+09DF is.
use Rattle.std.proofs.Common.{◌≡◌, ◌==◌, ◌&&◌, ℕ, Bool, true, false, Some, None, [], ◌∷◌, refl, subst, arith, if◌then◌else◌}
use Rattle.std.proofs.lemmas.Bool.Decides.{nat_tests}
use Rattle.canonical_form.specs.Equivalent.{IsEquivalent}
use Rattle.shape_common.specs.Unicode.{UnicodeMeaning, LawfulUnicode, decompositions_of, is_mark}
use Rattle.indic_shaper.specs.Composing.{composed}

pub composed-sound : (unicode : UnicodeMeaning) → LawfulUnicode unicode
    → IsEquivalent (decompositions_of unicode) (0x9DF ∷ []) (0x9AF ∷ 0x9BC ∷ []) → (a b c : ℕ) → composed unicode a b ≡ Some c
    → IsEquivalent (decompositions_of unicode) (c ∷ []) (a ∷ b ∷ [])
composed-sound unicode lawful sound a b c e = by_mark (is_mark unicode a) e
  where
    by_pair : (t : Bool) → ((a == 0x9AF) && (b == 0x9BC)) ≡ t → (if t then Some 0x9DF else unicode.compose a b) ≡ Some c
        → IsEquivalent (decompositions_of unicode) (c ∷ []) (a ∷ b ∷ [])
    by_pair true is e =
        let first : 0x9AF ≡ a = grind (arith, nat_tests, is) in
        let second : 0x9BC ≡ b = grind (arith, nat_tests, is) in
        let whole : 0x9DF ≡ c = cc in
        subst (λ z. IsEquivalent (decompositions_of unicode) (z ∷ []) (a ∷ b ∷ [])) whole
        (subst (λ y. IsEquivalent (decompositions_of unicode) (0x9DF ∷ []) (a ∷ y ∷ [])) second
        (subst (λ x. IsEquivalent (decompositions_of unicode) (0x9DF ∷ []) (x ∷ 0x9BC ∷ [])) first sound))
    by_pair false is e = lawful.composes_soundly.equivalent a b c e

    by_mark : (m : Bool) → (if m then None else (if (a == 0x9AF) && (b == 0x9BC) then Some 0x9DF else unicode.compose a b)) ≡ Some c
        → IsEquivalent (decompositions_of unicode) (c ∷ []) (a ∷ b ∷ [])
    by_mark true e = cc
    by_mark false e = by_pair ((a == 0x9AF) && (b == 0x9BC)) refl e
