-- What two characters compose to splits into these two again, so that composing preserves equivalence.
use Rattle.std.proofs.Common.{◌≡◌, ◌≢◌, ℕ, ◌+◌, ◌-◌, ◌/◌, ◌%◌, ◌⊎◌, true, false, not, ◌==◌, List, [], ◌∷◌, ◌++◌, Some, None, sym, ap, ap₂, subst, ◌∙◌}
use Rattle.std.proofs.Common.{arith, inl, inr, eq-eqb, ne_eqb}
use Rattle.std.proofs.lemmas.Bool.{and_parts, cond-true, cond-false}
use Rattle.ucd_normal.specs.Composition.{composite}
use Rattle.ucd_normal.specs.Decomposition.{canonical_mapping}
use Rattle.ucd_normal.proofs.CompositionLemmas.{composite-IsCompositeOf}
use Rattle.unicode_normalization.specs.Compose.{primary_composite, or_else}
use Rattle.unicode_normalization.specs.Hangul.{is_syllable, compose_hangul}
use Rattle.unicode_normalization.proofs.ComposeLemmas.{cases_Option}
use Rattle.unicode_normalization.proofs.HangulLemmas.{is_among_from, IsLv, IsLvt, compose_hangul-some}
use Rattle.shape_unicode.specs.Ccc.{modified_ccc_of}
use Rattle.shape_unicode.specs.Canonical.{by_shaping}
use Rattle.shape_unicode.specs.Split.{parts_of, split_of}
use Rattle.shape_unicode.specs.TableFacts.{pair_has_second, mappings_ok}
use Rattle.std.proofs.lemmas.List.{append_assoc}
use Rattle.canonical_form.specs.Chain.{FallsAlong, kept_part, full, full_text}
use Rattle.canonical_form.specs.Order.{Swaps, done}
use Rattle.canonical_form.specs.Equivalent.{ComposesSoundly}
use Rattle.canonical_form.proofs.Expanding.ChainLemmas.{full-stays, full-splits}
use Rattle.shape_unicode.specs.SplitLaws.{not_true, has_mapping, split_of-falls, second_is_whole}

composes_hangul : (a b c : ℕ) → IsLv a b c ⊎ IsLvt a b c → (split_of c ≡ Some (a, b)) × (b ≢ 0)
composes_hangul a b c (inl h) =
    let leading = h.leading in
    let vowel = h.vowel in
    let value = h.value in
    let syllable = is_among_from 0xAC00 11172 c (omega arith) (omega arith) in
    let open_end : (c - 0xAC00) % 28 ≡ 0 = omega arith in
    let first : 0x1100 + (c - 0xAC00) / 588 ≡ a = omega arith in
    let second : 0x1161 + (c - 0xAC00) % 588 / 28 ≡ b = omega arith in (
      cond-true (is_syllable c) _ _ syllable ∙ ap Some (cond-true _ _ _ (eq-eqb _ 0 open_end) ∙ ap₂ (λ x y. (x, y)) first second),
      λ e. omega arith,
    )
composes_hangul a b c (inr h) =
    let range = h.syllable in
    let trailing = h.trailing in
    let value = h.value in
    let of_a = h.open_end in
    let syllable = is_among_from 0xAC00 11172 c (omega arith) (omega arith) in
    let closed : (c - 0xAC00) % 28 ≢ 0 = λ e. omega arith in
    let first : c - (c - 0xAC00) % 28 ≡ a = omega arith in
    let second : 0x11A7 + (c - 0xAC00) % 28 ≡ b = omega arith in (
      cond-true (is_syllable c) _ _ syllable ∙ ap Some (cond-false _ _ _ (ne_eqb _ 0 closed) ∙ ap₂ (λ x y. (x, y)) first second),
      λ e. omega arith,
    )

composes_database : (a b c : ℕ) → composite a b ≡ Some c → (split_of c ≡ Some (a, b)) × (b ≢ 0)
composes_database a b c composed =
    let mapping : canonical_mapping c ≡ a ∷ b ∷ [] = (composite-IsCompositeOf a b c composed).mapping in
    let into : parts_of (canonical_mapping c) ≡ Some (a, b) = ap parts_of mapping in
    let ok = and_parts _ _ (mappings_ok c (has_mapping c a b into)) in
    let apart : is_syllable c ≡ false = not_true _ (and_parts _ _ ok.0).0 in
    let second : not (b == 0) ≡ true = ap pair_has_second (sym mapping) ∙ (and_parts _ _ ok.1).0 in (
      cond-false (is_syllable c) _ _ apart ∙ into,
      λ e. let zero_second : true ≡ false = sym (eq-eqb b 0 e) ∙ not_true _ second in cc,
    )

-- what two characters compose to splits into the two
pub composed_splits : (a b c : ℕ) → primary_composite a b ≡ Some c → (split_of c ≡ Some (a, b)) × (b ≢ 0)
unfolding primary_composite
composed_splits a b c composed =
    elim (cases_Option (compose_hangul a b)) [
      | inl none ↦ composes_database a b c (ap (λ o. or_else o (composite a b)) (sym none) ∙ composed)
      | inr some ↦
          let e : Some some.0 ≡ Some c = ap (λ o. or_else o (composite a b)) (sym some.1) ∙ composed in
          composes_hangul a b c (compose_hangul-some a b c (some.1 ∙ e))
    ]

kept_part_nonzero : (b : ℕ) → b ≢ 0 → kept_part b ≡ b ∷ []
kept_part_nonzero b nonzero = cond-false (b == 0) _ _ (ne_eqb b 0 nonzero)

-- Full of the composed one is Full of the first part, and then the second part, which is its own Full
full_of_composed : (a b c : ℕ) → primary_composite a b ≡ Some c → full by_shaping c ≡ full by_shaping a ++ full by_shaping b
full_of_composed a b c composed =
    let parts = composed_splits a b c composed in
    let falling : FallsAlong by_shaping.split by_shaping.height = record { falls = split_of-falls } in
    let last : split_of b ≡ None = elim (second_is_whole c a b parts.0) [ inl z ↦ absurd (parts.1 z) | inr h ↦ h ] in
    let second : kept_part b ≡ full by_shaping b = kept_part_nonzero b parts.1 ∙ sym (full-stays by_shaping falling b last) in
    full-splits by_shaping falling c a b parts.0 ∙ ap (λ xs. full by_shaping a ++ xs) second

pub composes_soundly : ComposesSoundly by_shaping primary_composite
unfolding full_text
composes_soundly = record { equivalent = sound }
  where
    full_of : ℕ → List ℕ
    full_of c = full by_shaping c

    sound : (a b c : ℕ) → primary_composite a b ≡ Some c
        → Swaps modified_ccc_of (full_text by_shaping (c ∷ [])) (full_text by_shaping (a ∷ b ∷ []))
    sound a b c composed =
        let same_text : (full_of c ++ []) ≡ (full_of a ++ (full_of b ++ [])) =
        ap (λ xs. xs ++ []) (full_of_composed a b c composed) ∙ append_assoc (full_of a) (full_of b) [] in
        subst (λ xs. Swaps modified_ccc_of (full_of c ++ []) xs) same_text done
