-- The order of marks, computed over the rows of the database.
use Rattle.std.proofs.Common.{◌≡◌, ◌≢◌, ◌<◌, ℕ, ◌==◌, ◌&&◌, ◌||◌, nat_lt, Bool, true, false, List, refl, ap, arith, inl, inr, eqb-true, ltb-true}
use Rattle.std.proofs.lemmas.Bool.{cases_Bool, and_parts, or_cases, cond-true}
use Rattle.ucd_table.proofs.RangedFacts.{Stepped-at_points}
use Rattle.ucd_normal.specs.CanonicalCombiningClass.{canonical_combining_class as ccc}
use Rattle.ucd_normal.proofs.CanonicalCombiningClassLemmas.{canonical_combining_class_stepped}
use Rattle.shape_unicode.specs.Ccc.{modified_ccc_from, modified_ccc_of}
use Rattle.shape_unicode.specs.Tables.{Tables, by_rows, by_trees, same_tables}
use Rattle.shape_unicode.specs.MarkOrder.{rises_above, hebrew_marks, arabic_marks, telugu_marks, thai_marks, tibetan_marks, MarksAreInOrder}

abbrev ccc_by : Tables → ℕ → ℕ
ccc_by t c = modified_ccc_from (t.ccc c) c

abbrev rise_by : List ℕ → Tables → Bool
rise_by marks t = rises_above (ccc_by t) 0 marks

hebrew_ok : rise_by hebrew_marks by_rows ≡ true
unfolding by_trees
hebrew_ok = ap (rise_by hebrew_marks) same_tables

arabic_ok : rise_by arabic_marks by_rows ≡ true
unfolding by_trees
arabic_ok = ap (rise_by arabic_marks) same_tables

telugu_ok : rise_by telugu_marks by_rows ≡ true
unfolding by_trees
telugu_ok = ap (rise_by telugu_marks) same_tables

thai_ok : rise_by thai_marks by_rows ≡ true
unfolding by_trees
thai_ok = ap (rise_by thai_marks) same_tables

tibetan_ok : rise_by tibetan_marks by_rows ≡ true
unfolding by_trees
tibetan_ok = ap (rise_by tibetan_marks) same_tables

-- the two marks have the ccc 254
abbrev last_by : Tables → Bool
last_by t = ccc_by t 0xFC6 == 254 && ccc_by t 0x1A60 == 254

last_ok : last_by by_rows ≡ true
unfolding by_trees
last_ok = ap last_by same_tables

-- a character of combining class n is one of the two, or has a lower ccc
abbrev is_before : ℕ → ℕ → Bool
is_before c n = c == 0xFC6 || (c == 0x1A60 || nat_lt (modified_ccc_from n c) 254)

before_ok : (c : ℕ) → (ccc c == 0) ≡ false → is_before c (ccc c) ≡ true
unfolding by_trees
before_ok = Stepped-at_points ccc canonical_combining_class_stepped (λ n. n == 0) is_before refl

below_last : (c : ℕ) → c ≢ 0xFC6 → c ≢ 0x1A60 → modified_ccc_of c < 254
below_last c other another =
    elim (cases_Bool (ccc c == 0)) [
      | inl h ↦ let none : modified_ccc_of c ≡ 0 = cond-true (ccc c == 0) 0 _ h in omega arith
      | inr h ↦ elim (or_cases _ _ (before_ok c h)) [
        | inl e ↦ absurd (other (eqb-true _ _ e))
        | inr rest ↦ elim (or_cases _ _ rest) [
          | inl e ↦ absurd (another (eqb-true _ _ e))
          | inr lower ↦ ltb-true _ _ lower
        ]
      ]
    ]

pub marks_are_in_order : MarksAreInOrder
marks_are_in_order = record {
  hebrew = hebrew_ok;
  arabic = arabic_ok;
  telugu = telugu_ok;
  thai = thai_ok;
  tibetan = tibetan_ok;
  last = λ c other another.
      let both = and_parts _ _ last_ok in
      let first : modified_ccc_of 0xFC6 ≡ 254 = eqb-true _ _ both.0 in
      let second : modified_ccc_of 0x1A60 ≡ 254 = eqb-true _ _ both.1 in
      let below = below_last c other another in
      (omega arith, omega arith);
}
