-- Splits fall: a split is that of a syllable, or one of the database; each lowers the height, and a second part splits
-- no more.
use Rattle.std.proofs.Common.{◌≡◌, ◌≢◌, ℕ, suc, ◌+◌, ◌-◌, ◌/◌, ◌%◌, ◌<◌, ◌≤◌, ◌⊎◌, Bool, true, false, not, ◌==◌, List, [], ◌∷◌, Option, Some, None}
use Rattle.std.proofs.Common.{refl, sym, ap, ◌∙◌, arith, inl, inr, eqb-true, eq-eqb, ltb-true}
use Rattle.std.proofs.lemmas.Bool.{cases_Bool, and_parts, or_cases, cond-true, cond-false}
use Rattle.std.specs.Option.{option_map_or}
use Rattle.ucd_normal.specs.Decomposition.{canonical_mapping}
use Rattle.ucd_normal.proofs.CompositionLemmas.{is_empty}
use Rattle.unicode_normalization.specs.Hangul.{is_syllable}
use Rattle.unicode_normalization.proofs.HangulLemmas.{is_among_from, not_among_below, is_syllable-true}
use Rattle.shape_unicode.specs.Split.{parts_of, split_of, split_syllable, depth_within, height_of}
use Rattle.shape_unicode.specs.Tables.{by_rows}
use Rattle.shape_unicode.specs.TableFacts.{parts_fall, mappings_ok}

pub not_true : (b : Bool) → not b ≡ true → b ≡ false
not_true true h = cc
not_true false h = refl

pub true_is_false : {X : Type 0} → true ≡ false → X
true_is_false clash = cc

pub nil_of_empty : (xs : List ℕ) → is_empty xs ≡ true → xs ≡ []
nil_of_empty [] h = refl
nil_of_empty (x ∷ xs) h = cc

-- a split is that of a syllable, or one of the database
pub split_cases : (c a b : ℕ) → split_of c ≡ Some (a, b)
    → ((is_syllable c ≡ true) × (split_syllable c ≡ (a, b))) ⊎ ((is_syllable c ≡ false) × (parts_of (canonical_mapping c) ≡ Some (a, b)))
split_cases c a b splits =
    elim (cases_Bool (is_syllable c)) [
      | inl h ↦ let e : Some (split_syllable c) ≡ Some (a, b) = sym (cond-true (is_syllable c) _ _ h) ∙ splits in inl (h, cc)
      | inr h ↦ inr (h, sym (cond-false (is_syllable c) _ _ h) ∙ splits)
    ]

-- if there are parts, there is a mapping
pub has_mapping : (c a b : ℕ) → parts_of (canonical_mapping c) ≡ Some (a, b) → is_empty (canonical_mapping c) ≡ false
has_mapping c a b splits =
    elim (cases_Bool (is_empty (canonical_mapping c))) [
      | inl h ↦ let none : ◌≡◌ {A = Option (ℕ × ℕ)} None (Some (a, b)) = ap parts_of (sym (nil_of_empty (canonical_mapping c) h))
          ∙ splits in cc
      | inr h ↦ h
    ]

-- what the database's parts pass
record IsSplitOf (c a b : ℕ) : Type 0 where
  falls : depth_within canonical_mapping 4 a < depth_within canonical_mapping 4 c
  first : is_syllable a ≡ false
  second : (b ≡ 0) ⊎ ((canonical_mapping b ≡ []) × (is_syllable b ≡ false))

splits_by_mapping : (c a b : ℕ) → parts_of (canonical_mapping c) ≡ Some (a, b) → IsSplitOf c a b
splits_by_mapping c a b splits =
    let ok = and_parts _ _ (mappings_ok c (has_mapping c a b splits)) in
    let fall : parts_fall by_rows c (Some (a, b)) ≡ true = ap (parts_fall by_rows c) (sym splits) ∙ (and_parts _ _ ok.1).1 in
    let both = and_parts _ _ fall in
    let lower = and_parts _ _ both.0 in
    record {
      falls = ltb-true _ _ lower.0;
      first = not_true _ lower.1;
      second = elim (or_cases _ _ both.1) [
        | inl h ↦ inl (eqb-true b 0 h)
        | inr h ↦ let second = and_parts _ _ h in inr (nil_of_empty _ second.0, not_true _ second.1)
      ];
    }

whole : (c : ℕ) → canonical_mapping c ≡ [] → is_syllable c ≡ false → (split_of c ≡ None) × (height_of c ≡ 0)
whole c none apart = (
  cond-false (is_syllable c) _ _ apart ∙ ap parts_of none,
  cond-false (is_syllable c) _ _ apart
      ∙ ap (λ xs. option_map_or (λ parts. suc (depth_within canonical_mapping 3 parts.0)) (parts_of xs) 0) none,
)

jamo_unmapped : (c : ℕ) → 0x1100 ≤ c → c < 0x1200 → is_empty (canonical_mapping c) ≢ false
jamo_unmapped c low high some =
    true_is_false (sym (is_among_from 0x1100 0x100 c low high) ∙ not_true _ (and_parts _ _ (and_parts _ _ (mappings_ok c some)).0).1)

jamo_whole : (c : ℕ) → 0x1100 ≤ c → c < 0x1200 → (split_of c ≡ None) × (height_of c ≡ 0)
jamo_whole c low high =
    let no_mapping : is_empty (canonical_mapping c) ≡ true =
    elim (cases_Bool (is_empty (canonical_mapping c))) [ inl h ↦ h | inr h ↦ absurd (jamo_unmapped c low high h) ] in
    whole c (nil_of_empty _ no_mapping) (not_among_below 0xAC00 11172 c (omega arith))

-- the parts of a syllable
record IsSyllableSplit (c a b : ℕ) : Type 0 where
  falls : height_of a < height_of c
  second_low : 0x1161 ≤ b
  second_high : b < 0x1200

-- a leading consonant and a vowel
by_syllable-lv : (c a b : ℕ) → is_syllable c ≡ true → ((c - 0xAC00) % 28 == 0) ≡ true → split_syllable c ≡ (a, b) → IsSyllableSplit c a b
by_syllable-lv c a b syllable h splits =
    let range : (0xAC00 ≤ c) × (c < 0xD7A4) = is_syllable-true c syllable in
    let pair : ◌≡◌ {A = ℕ × ℕ} (0x1100 + (c - 0xAC00) / 588, 0x1161 + (c - 0xAC00) % 588 / 28) (a, b) = sym
    (cond-true {A = ℕ × ℕ} ((c - 0xAC00) % 28 == 0) _ _ h) ∙ splits in
    let first : 0x1100 + (c - 0xAC00) / 588 ≡ a = ap (λ (x : ℕ × ℕ). x.0) pair in
    let second : 0x1161 + (c - 0xAC00) % 588 / 28 ≡ b = ap (λ (x : ℕ × ℕ). x.1) pair in
    let low : height_of a ≡ 0 = (jamo_whole a (omega arith) (omega arith)).1 in
    let one : height_of c ≡ 1 = cond-true (is_syllable c) _ _ syllable ∙ cond-true ((c - 0xAC00) % 28 == 0) 1 2 h in
    record { falls = omega arith; second_low = omega arith; second_high = omega arith }

-- such a syllable and a trailing consonant
by_syllable-lvt : (c a b : ℕ) → is_syllable c ≡ true → ((c - 0xAC00) % 28 == 0) ≡ false → split_syllable c ≡ (a, b) → IsSyllableSplit c a b
by_syllable-lvt c a b syllable h splits =
    let range : (0xAC00 ≤ c) × (c < 0xD7A4) = is_syllable-true c syllable in
    let pair : ◌≡◌ {A = ℕ × ℕ} (c - (c - 0xAC00) % 28, 0x11A7 + (c - 0xAC00) % 28) (a, b) = sym
    (cond-false {A = ℕ × ℕ} ((c - 0xAC00) % 28 == 0) _ _ h) ∙ splits in
    let first : c - (c - 0xAC00) % 28 ≡ a = ap (λ (x : ℕ × ℕ). x.0) pair in
    let second : 0x11A7 + (c - 0xAC00) % 28 ≡ b = ap (λ (x : ℕ × ℕ). x.1) pair in
    let open_end : (a - 0xAC00) % 28 ≡ 0 = omega arith in
    let syllable_a : is_syllable a ≡ true = is_among_from 0xAC00 11172 a (omega arith) (omega arith) in
    let low : height_of a ≡ 1 = cond-true (is_syllable a) _ _ syllable_a ∙ cond-true ((a - 0xAC00) % 28 == 0) 1 2 (eq-eqb _ 0 open_end) in
    let two : height_of c ≡ 2 = cond-true (is_syllable c) _ _ syllable ∙ cond-false ((c - 0xAC00) % 28 == 0) 1 2 h in
    record { falls = omega arith; second_low = omega arith; second_high = omega arith }

by_syllable : (c a b : ℕ) → is_syllable c ≡ true → split_syllable c ≡ (a, b) → IsSyllableSplit c a b
by_syllable c a b syllable splits =
    elim (cases_Bool ((c - 0xAC00) % 28 == 0)) [
      | inl h ↦ by_syllable-lv c a b syllable h splits
      | inr h ↦ by_syllable-lvt c a b syllable h splits
    ]

pub split_of-falls : (c a b : ℕ) → split_of c ≡ Some (a, b) → height_of a < height_of c
split_of-falls c a b splits =
    elim (split_cases c a b splits) [
      | inl h ↦ (by_syllable c a b h.0 h.1).falls
      | inr h ↦
          let ok = splits_by_mapping c a b h.1 in
          let of_a : height_of a ≡ depth_within canonical_mapping 4 a = cond-false (is_syllable a) _ _ ok.first in
          let of_c : height_of c ≡ depth_within canonical_mapping 4 c = cond-false (is_syllable c) _ _ h.0 in
          let falls = ok.falls in
          omega arith
    ]

pub second_is_whole : (c a b : ℕ) → split_of c ≡ Some (a, b) → (b ≡ 0) ⊎ (split_of b ≡ None)
second_is_whole c a b splits =
    elim (split_cases c a b splits) [
      | inl h ↦
          let ok = by_syllable c a b h.0 h.1 in
          let low = ok.second_low in
          inr (jamo_whole b (omega arith) ok.second_high).0
      | inr h ↦ elim (splits_by_mapping c a b h.1).second [ inl z ↦ inl z | inr w ↦ inr (whole b w.0 w.1).0 ]
    ]
