-- Only marks have a ccc, and the parts of a character with a ccc have that ccc.
use Rattle.std.proofs.Common.{◌≡◌, ◌≢◌, ℕ, ◌⊎◌, true, false, ◌==◌, Some, sym, ap, ◌∙◌, inl, inr, eqb-true}
use Rattle.std.proofs.lemmas.Bool.{cases_Bool, and_parts, or_cases, cond-true, cond-false}
use Rattle.ucd_normal.specs.CanonicalCombiningClass.{canonical_combining_class as ccc}
use Rattle.ucd_normal.specs.Decomposition.{canonical_mapping}
use Rattle.unicode_normalization.specs.Hangul.{is_syllable}
use Rattle.shape_unicode.specs.Ccc.{modified_ccc_of}
use Rattle.shape_unicode.specs.Split.{parts_of, split_of}
use Rattle.shape_unicode.specs.TableFacts.{parts_preserve, CccPass}
use Rattle.shape_common.specs.Unicode.{is_mark}
use Rattle.shape_unicode.specs.Meaning.{unicode_database}
use Rattle.shape_unicode.specs.SplitLaws.{not_true}

has_ccc : (c : ℕ) → modified_ccc_of c ≢ 0 → (ccc c == 0) ≡ false
has_ccc c nonzero =
    elim (cases_Bool (ccc c == 0)) [ inl h ↦ absurd (nonzero (cond-true (ccc c == 0) 0 _ h)) | inr h ↦ h ]

pub only_marks_have_ccc : CccPass → (c : ℕ) → modified_ccc_of c ≢ 0 → is_mark unicode_database c ≡ true
only_marks_have_ccc pass c nonzero =
    let parts = and_parts _ _ (pass c (has_ccc c nonzero)) in (and_parts _ _ parts.0).0

-- the parts of a character with a ccc
pub ccc_of_parts : CccPass → (c a b : ℕ) → modified_ccc_of c ≢ 0 → split_of c ≡ Some (a, b)
    → (modified_ccc_of a ≡ modified_ccc_of c) × ((b ≡ 0) ⊎ (modified_ccc_of b ≡ modified_ccc_of c))
ccc_of_parts pass c a b nonzero splits =
    let ok = and_parts _ _ (pass c (has_ccc c nonzero)) in
    let apart : is_syllable c ≡ false = not_true _ (and_parts _ _ ok.0).1 in
    let into : parts_of (canonical_mapping c) ≡ Some (a, b) = sym (cond-false (is_syllable c) _ _ apart) ∙ splits in
    let preserves : parts_preserve modified_ccc_of (modified_ccc_of c) (Some (a, b))
    ≡ true = ap (parts_preserve modified_ccc_of (modified_ccc_of c)) (sym into) ∙ ok.1 in
    let both = and_parts _ _ preserves in (
      eqb-true _ _ both.0,
      elim (or_cases _ _ both.1) [ inl h ↦ inl (eqb-true b 0 h) | inr h ↦ inr (eqb-true _ _ h) ],
    )
