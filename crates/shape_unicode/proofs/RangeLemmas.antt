-- Where the ranges of a property have no code point, or every one, so that its answer is known without them.
use Rattle.std.proofs.Common.{◌≡◌, ℕ, ◌<◌, ◌≤◌, Bool, true, false, not, ◌&&◌, ◌||◌, ◌==◌, nat_lt, nat_le, ltb-true, List, [], ◌∷◌, refl, sym, ap, ap₂, ◌∙◌, inl, inr, arith}
use Rattle.std.proofs.lemmas.Bool.{and_parts, and_right, cases_Bool}
use Rattle.std.proofs.lemmas.Bool.Decides.{nat_tests}
use Rattle.ucd_table.specs.Rows.{Range, in_ranges}
use Rattle.ucd_table.proofs.Computing.{tables}
use Rattle.ucd_bidi.specs.Binary.{is_bidi_mirrored}
use Rattle.ucd_bidi.specs.BidiMirroredRanges.{bidi_mirrored_ranges}
use Rattle.ucd_derived.specs.Binary.{is_default_ignorable_code_point}
use Rattle.ucd_derived.specs.DefaultIgnorableCodePointRanges.{default_ignorable_code_point_ranges}
use Rattle.ucd_props.specs.Binary.{is_variation_selector}
use Rattle.ucd_props.specs.Ranges.{variation_selector_ranges}
use Rattle.shape_unicode.specs.Hidden.{is_seen_early, is_seen_between, is_seen_late, is_unseen_early, is_between_selectors, is_seen_though_ignorable, is_ignorable, is_mongolian, is_selector}
use Rattle.shape_unicode.specs.Mirror.{is_between_brackets, is_before_angles}

-- no range has a code point from a to b, except for x and y
unfoldable none_between : ℕ → ℕ → ℕ → ℕ → List Range → Bool
none_between a b x y [] = true
none_between a b x y (r ∷ rs) =
    (nat_lt r.1 a || (nat_lt b r.0 || (r.0 == r.1 && (r.0 == x || r.0 == y)))) && none_between a b x y rs

in_ranges-none : (a b x y : ℕ) (rs : List Range) (c : ℕ) → none_between a b x y rs ≡ true → a ≤ c → c ≤ b
    → (c == x) ≡ false → (c == y) ≡ false → in_ranges rs c ≡ false
unfolding in_ranges none_between
in_ranges-none a b x y [] c none from to no_x no_y = refl
in_ranges-none a b x y (r ∷ rs) c none from to no_x no_y =
    let parts = and_parts (nat_lt r.1 a || (nat_lt b r.0 || (r.0 == r.1 && (r.0 == x || r.0 == y)))) (none_between a b x y rs) none in
    rw (in_ranges-none a b x y rs c parts.1 from to no_x no_y) (grind (arith, nat_tests, parts.0, from, to, no_x, no_y))

-- a range has all code points from a to b
unfoldable has_all : ℕ → ℕ → List Range → Bool
has_all a b [] = false
has_all a b (r ∷ rs) = (nat_le r.0 a && nat_le b r.1) || has_all a b rs

in_ranges-all : (a b : ℕ) (rs : List Range) (c : ℕ) → has_all a b rs ≡ true → a ≤ c → c ≤ b → in_ranges rs c ≡ true
unfolding in_ranges has_all
in_ranges-all a b [] c all from to = absurd (cc)
in_ranges-all a b (r ∷ rs) c all from to =
    elim (cases_Bool (nat_le r.0 a && nat_le b r.1)) [
      | inl here ↦
          let ends = and_parts (nat_le r.0 a) (nat_le b r.1) here in
          grind (arith, nat_tests, ends.0, ends.1, from, to)
      | inr elsewhere ↦
          let rest : has_all a b rs ≡ true = ap (λ t. t || has_all a b rs) (sym elsewhere) ∙ all in
          rw (in_ranges-all a b rs c rest from to) (grind (arith, nat_tests, from, to))
    ]

pub seen_early : (c : ℕ) → is_seen_early c ≡ true → is_default_ignorable_code_point c ≡ false
unfolding tables none_between is_default_ignorable_code_point default_ignorable_code_point_ranges
seen_early c early =
    in_ranges-none 0 0x61B 0xAD 0x34F default_ignorable_code_point_ranges c refl (grind arith)
    (grind (arith, nat_tests, early)) (grind (arith, nat_tests, early)) (grind (arith, nat_tests, early))

pub seen_between : (c : ℕ) → is_seen_between c ≡ true → is_default_ignorable_code_point c ≡ false
unfolding tables none_between is_default_ignorable_code_point default_ignorable_code_point_ranges
seen_between c between =
    in_ranges-none 0x1810 0x200A 0 0 default_ignorable_code_point_ranges c refl (grind (arith, nat_tests, between))
    (grind (arith, nat_tests, between)) (grind (arith, nat_tests, between)) (grind (arith, nat_tests, between))

pub seen_late : (c : ℕ) → is_seen_late c ≡ true → is_default_ignorable_code_point c ≡ false
unfolding tables none_between is_default_ignorable_code_point default_ignorable_code_point_ranges
seen_late c late =
    in_ranges-none 0x1D17B 0xDFFFF 0 0 default_ignorable_code_point_ranges c refl (grind (arith, nat_tests, late))
    (grind (arith, nat_tests, late)) (grind (arith, nat_tests, late)) (grind (arith, nat_tests, late))

pub unseen_early : (c : ℕ) → is_unseen_early c ≡ true → is_ignorable c ≡ true
unfolding tables has_all is_default_ignorable_code_point default_ignorable_code_point_ranges
unseen_early c early =
    let ignorable : is_default_ignorable_code_point c ≡ true =
    in_ranges-all 0x200B 0x200F default_ignorable_code_point_ranges c refl
    (grind (arith, nat_tests, early)) (grind (arith, nat_tests, early)) in
    let unseen : is_seen_though_ignorable c ≡ false = grind (arith, nat_tests, early) in
    ap₂ (λ t s. t && not s) ignorable unseen

-- no character of a range is unseen in which the database has the filler of Hangul alone, which is shown
seen_from : (a b c : ℕ) → none_between a b 0x3164 0x3164 default_ignorable_code_point_ranges ≡ true → a ≤ c → c ≤ b → is_ignorable c ≡ false
unfolding is_default_ignorable_code_point
seen_from a b c none from to =
    elim (cases_Bool (c == 0x3164)) [
      | inl filler ↦
          let shown : is_seen_though_ignorable c ≡ true = grind (arith, nat_tests, filler) in
          and_right (is_default_ignorable_code_point c) (not (is_seen_though_ignorable c)) (ap not shown)
      | inr other ↦
          ap (λ t. t && not (is_seen_though_ignorable c))
          (in_ranges-none a b 0x3164 0x3164 default_ignorable_code_point_ranges c none from to other other)
    ]

-- punctuation, symbols and the letters of East Asia, without the marks of direction and the invisible operators
pub seen_middle : (c : ℕ)
    → (nat_lt 0x200F c && nat_lt c 0xFE00
    && not ((nat_le 0x202A c && nat_le c 0x202E) || (nat_le 0x2060 c && nat_le c 0x206F))) ≡ true
    → is_ignorable c ≡ false
unfolding tables none_between default_ignorable_code_point_ranges
seen_middle c middle =
    elim (cases_Bool (nat_lt c 0x202A)) [
      | inl before ↦ seen_from 0x2010 0x2029 c refl (grind (arith, nat_tests, middle)) (grind (arith, nat_tests, before))
      | inr past ↦
          elim (cases_Bool (nat_lt c 0x2060)) [
            | inl between ↦
                seen_from 0x202F 0x205F c refl (grind (arith, nat_tests, past, middle)) (grind (arith, nat_tests, between))
            | inr beyond ↦
                seen_from 0x2070 0xFDFF c refl (grind (arith, nat_tests, beyond, middle)) (grind (arith, nat_tests, middle))
          ]
    ]

-- Arabic, and most scripts of South and South East Asia: the database has the fillers of Hangul alone, which are shown
pub seen_next : (c : ℕ) → (nat_lt 0x61C c && nat_lt c 0x17B4) ≡ true → is_ignorable c ≡ false
unfolding tables none_between default_ignorable_code_point_ranges
seen_next c next =
    elim (cases_Bool (nat_lt c 0x115F)) [
      | inl before ↦ seen_from 0x61D 0x115E c refl (grind (arith, nat_tests, next)) (grind (arith, nat_tests, before))
      | inr past ↦
          elim (cases_Bool (nat_lt 0x1160 c)) [
            | inl beyond ↦ seen_from 0x1161 0x17B3 c refl (grind (arith, nat_tests, beyond)) (grind (arith, nat_tests, next))
            | inr filler ↦
                let shown : is_seen_though_ignorable c ≡ true = grind (arith, nat_tests, past, filler) in
                and_right (is_default_ignorable_code_point c) (not (is_seen_though_ignorable c)) (ap not shown)
          ]
    ]

-- the variation selectors of the basic plane are unseen
pub unseen_selectors : (c : ℕ) → (nat_le 0xFE00 c && nat_le c 0xFE0F) ≡ true → is_ignorable c ≡ true
unfolding tables has_all is_default_ignorable_code_point default_ignorable_code_point_ranges
unseen_selectors c basic =
    let ignorable : is_default_ignorable_code_point c ≡ true =
    in_ranges-all 0xFE00 0xFE0F default_ignorable_code_point_ranges c refl
    (grind (arith, nat_tests, basic)) (grind (arith, nat_tests, basic)) in
    let unseen : is_seen_though_ignorable c ≡ false = grind (arith, nat_tests, basic) in
    ap₂ (λ t s. t && not s) ignorable unseen

pub basic_selectors : (c : ℕ) → (nat_le 0xFE00 c && nat_le c 0xFE0F) ≡ true → is_selector c ≡ true
unfolding tables has_all is_variation_selector variation_selector_ranges
basic_selectors c basic =
    let selector : is_variation_selector c ≡ true =
    in_ranges-all 0xFE00 0xFE0F variation_selector_ranges c refl
    (grind (arith, nat_tests, basic)) (grind (arith, nat_tests, basic)) in
    let elsewhere : is_mongolian c ≡ false = grind (arith, nat_tests, basic) in
    ap₂ (λ t s. t && not s) selector elsewhere

pub not_mirrored_before_angles : (c : ℕ) → is_before_angles c ≡ true → is_bidi_mirrored c ≡ false
unfolding tables none_between is_bidi_mirrored bidi_mirrored_ranges
not_mirrored_before_angles c before =
    in_ranges-none 0x2000 0x2038 0 0 bidi_mirrored_ranges c refl (grind (arith, nat_tests, before)) (grind (arith, nat_tests, before))
    (grind (arith, nat_tests, before)) (grind (arith, nat_tests, before))

pub not_mirrored : (c : ℕ) → is_between_brackets c ≡ true → is_bidi_mirrored c ≡ false
unfolding tables none_between is_bidi_mirrored bidi_mirrored_ranges
not_mirrored c between =
    in_ranges-none 0xBC 0xF39 0 0 bidi_mirrored_ranges c refl (grind (arith, nat_tests, between)) (grind (arith, nat_tests, between))
    (grind (arith, nat_tests, between)) (grind (arith, nat_tests, between))

pub not_mirrored_before : (c : ℕ) → nat_lt c 0x28 ≡ true → is_bidi_mirrored c ≡ false
unfolding tables none_between is_bidi_mirrored bidi_mirrored_ranges
not_mirrored_before c before =
    in_ranges-none 0 0x27 0x28 0x28 bidi_mirrored_ranges c refl (grind arith) (grind (arith, nat_tests, before))
    (grind (arith, nat_tests, before)) (grind (arith, nat_tests, before))

-- before U+FE00 the variation selectors are Mongolian's
pub early_selectors : (c : ℕ) → c < 0xFE00 → (is_variation_selector c && not (is_mongolian c)) ≡ false
unfolding in_ranges is_variation_selector variation_selector_ranges
early_selectors c early = grind (arith, nat_tests, early)

-- past those of the basic plane there are none before U+E0100
pub no_selector_between : (c : ℕ) → is_between_selectors c ≡ true → is_variation_selector c ≡ false
unfolding tables none_between is_variation_selector variation_selector_ranges
no_selector_between c between =
    in_ranges-none 0xFE10 0xE00FF 0 0 variation_selector_ranges c refl (grind (arith, nat_tests, between))
    (grind (arith, nat_tests, between)) (grind (arith, nat_tests, between)) (grind (arith, nat_tests, between))
