-- Each class that a rule names, worked out by hand from the standard. Where another rule would say the same, the letter
-- beside it is one of which that rule says nothing.
use Rattle.std.specs.Prelude.{◌≡◌, ◌==◌, Bool, true, List, [], ◌∷◌, refl}
use Rattle.std.specs.List.{list_all}
use Rattle.ucd_breaks.specs.declared.LineBreak.{LineBreak}
use Rattle.ucd_breaks.specs.declared.LineBreak.TheVariants.{Aksara, AksaraPrebase, AksaraStart, Alphabetic, BreakAfter, BreakBefore, BreakBoth}
use Rattle.ucd_breaks.specs.declared.LineBreak.TheVariants.{BreakSymbols, CarriageReturn, CloseParenthesis, ClosePunctuation, ContingentBreak, EBase}
use Rattle.ucd_breaks.specs.declared.LineBreak.TheVariants.{EModifier, Exclamation, Glue, H2, H3, HebrewLetter, Hyphen, Ideographic, InfixNumeric, Jl}
use Rattle.ucd_breaks.specs.declared.LineBreak.TheVariants.{Jt, Jv, LineFeed, MandatoryBreak, NextLine, Nonstarter, Numeric, OpenPunctuation}
use Rattle.ucd_breaks.specs.declared.LineBreak.TheVariants.{PostfixNumeric, PrefixNumeric, Quotation, RegionalIndicator, Space, UnambiguousHyphen}
use Rattle.ucd_breaks.specs.declared.LineBreak.TheVariants.{Virama, ViramaFinal, WordJoiner, ZWSpace}
use Rattle.line_breaks.specs.Breaks.{verdict_between, verdict_number}
use Rattle.line_breaks.specs.Letters.{edge}
use Rattle.line_breaks.specs.Units.{unit}
use Rattle.line_breaks.specs.Worked.{letter, opening, closing, wide, place, alone}
use Rattle.line_breaks.specs.declared.letters.Letter.{Letter}
use Rattle.line_breaks.specs.declared.rules.Verdict.{Verdict}
use Rattle.line_breaks.specs.declared.rules.Verdict.TheVariants.{Mandatory, Allowed, Prohibited}

-- the same is said for each of some classes
abbrev each : List LineBreak → Verdict → (Letter → Verdict) → Bool
each classes wanted said = list_all (λ class. verdict_number (said (letter class)) == verdict_number wanted) classes

-- before and after a class stands nothing but an ideograph
abbrev ideograph : Letter
ideograph = letter Ideographic

abbrev circle : Letter
circle = record edge { class = Alphabetic; circle = true }

abbrev breaks : List LineBreak
breaks = MandatoryBreak ∷ CarriageReturn ∷ LineFeed ∷ NextLine ∷ []

abbrev jamo : List LineBreak
jamo = Jl ∷ Jv ∷ Jt ∷ H2 ∷ H3 ∷ []

abbrev letters : List LineBreak
letters = Alphabetic ∷ HebrewLetter ∷ []

pub record WorkedEarly : Type 0 where
  pub lb4_lb5 : each (MandatoryBreak ∷ LineFeed ∷ NextLine ∷ []) Mandatory (λ l. place (l ∷ []) (letter LineFeed) []) ≡ true
  pub lb6 : each breaks Prohibited (λ l. place (ideograph ∷ []) l []) ≡ true
  pub lb7 : each (Space ∷ ZWSpace ∷ []) Prohibited (λ l. place (ideograph ∷ []) l []) ≡ true
  pub lb7_not_another : place (ideograph ∷ []) ideograph [] ≡ Allowed
  pub lb8_at_once : place (letter ZWSpace ∷ []) (letter ClosePunctuation) [] ≡ Allowed
  pub lb8a : verdict_between (alone ideograph ∷ []) (unit 0 ideograph true) [] ≡ Prohibited
  pub lb11_not_after_its_spaces : place (letter Space ∷ letter WordJoiner ∷ []) ideograph [] ≡ Allowed
  pub lb12a_after_each : each (Space ∷ BreakAfter ∷ Hyphen ∷ UnambiguousHyphen ∷ []) Allowed (λ l. place (l ∷ []) (letter Glue) []) ≡ true
  pub lb13 : each (ClosePunctuation ∷ CloseParenthesis ∷ Exclamation ∷ BreakSymbols ∷ []) Prohibited (λ l. place (ideograph ∷ []) l []) ≡ true
  pub lb13_after_spaces : each (ClosePunctuation ∷ CloseParenthesis ∷ Exclamation ∷ BreakSymbols ∷ []) Prohibited (λ l. place (letter Space ∷ []) l []) ≡ true
  pub lb15a : each (OpenPunctuation ∷ Quotation ∷ Glue ∷ Space ∷ ZWSpace ∷ breaks) Prohibited
      (λ l. place (letter Space ∷ opening Quotation ∷ l ∷ []) ideograph []) ≡ true
  pub lb15a_not_of_another_quotation : place (letter Space ∷ closing Quotation ∷ []) ideograph [] ≡ Allowed
  pub lb15b : each (Space ∷ Glue ∷ WordJoiner ∷ ClosePunctuation ∷ Quotation ∷ CloseParenthesis ∷ Exclamation ∷ InfixNumeric ∷ BreakSymbols
      ∷ ZWSpace ∷ breaks) Prohibited (λ l. place (letter Space ∷ []) (closing Quotation) (l ∷ [])) ≡ true
  pub lb15b_not_of_another_quotation : place (letter Space ∷ []) (opening Quotation) (letter Space ∷ []) ≡ Allowed
  pub lb15c_not_without_a_space : place (ideograph ∷ []) (letter InfixNumeric) (letter Numeric ∷ []) ≡ Prohibited
  pub lb16 : each (ClosePunctuation ∷ CloseParenthesis ∷ []) Prohibited (λ l. place (letter Space ∷ l ∷ []) (letter Nonstarter) []) ≡ true
  pub lb16_not_after_another : place (letter Space ∷ ideograph ∷ []) (letter Nonstarter) [] ≡ Allowed
  pub lb17_not_before_another : place (letter Space ∷ letter BreakBoth ∷ []) ideograph [] ≡ Allowed
  pub lb19a_before_a_narrow_one : place (wide Ideographic ∷ []) (opening Quotation) (ideograph ∷ []) ≡ Prohibited
  pub lb19a_after_a_narrow_one : place (closing Quotation ∷ ideograph ∷ []) (wide Ideographic) [] ≡ Prohibited
  pub lb20_before_lb21 : place (letter BreakBefore ∷ []) (letter ContingentBreak) [] ≡ Allowed
  pub lb20_after_before_lb21 : place (letter ContingentBreak ∷ []) (letter BreakAfter) [] ≡ Allowed

pub record WorkedLate : Type 0 where
  pub lb20a : each (Space ∷ ZWSpace ∷ ContingentBreak ∷ Glue ∷ breaks) Prohibited (λ l. place (letter Hyphen ∷ l ∷ []) (letter Alphabetic) []) ≡ true
  pub lb20a_either_hyphen : each (Hyphen ∷ UnambiguousHyphen ∷ []) Prohibited (λ l. place (l ∷ letter Space ∷ []) (letter HebrewLetter) []) ≡ true
  pub lb20a_not_before_another : place (letter Hyphen ∷ letter Space ∷ []) ideograph [] ≡ Allowed
  pub lb21 : each (BreakAfter ∷ UnambiguousHyphen ∷ Hyphen ∷ Nonstarter ∷ []) Prohibited (λ l. place (ideograph ∷ []) l []) ≡ true
  pub lb21a : each (Hyphen ∷ UnambiguousHyphen ∷ []) Prohibited (λ l. place (l ∷ letter HebrewLetter ∷ []) ideograph []) ≡ true
  pub lb21a_not_after_another : place (letter Hyphen ∷ letter Alphabetic ∷ []) ideograph [] ≡ Allowed
  pub lb23 : each letters Prohibited (λ l. place (l ∷ []) (letter Numeric) []) ≡ true
  pub lb23_after : each letters Prohibited (λ l. place (letter Numeric ∷ []) l []) ≡ true
  pub lb23a : each (Ideographic ∷ EBase ∷ EModifier ∷ []) Prohibited (λ l. place (letter PrefixNumeric ∷ []) l []) ≡ true
  pub lb23a_after : each (Ideographic ∷ EBase ∷ EModifier ∷ []) Prohibited (λ l. place (l ∷ []) (letter PostfixNumeric) []) ≡ true
  pub lb23a_not_the_other : place (letter PostfixNumeric ∷ []) ideograph [] ≡ Allowed
  pub lb24 : each (PrefixNumeric ∷ PostfixNumeric ∷ []) Prohibited (λ l. place (l ∷ []) (letter HebrewLetter) []) ≡ true
  pub lb24_after : each (PrefixNumeric ∷ PostfixNumeric ∷ []) Prohibited (λ l. place (letter HebrewLetter ∷ []) l []) ≡ true
  pub lb25_closed : each (ClosePunctuation ∷ CloseParenthesis ∷ []) Prohibited (λ l. place (l ∷ letter Numeric ∷ []) (letter PrefixNumeric) []) ≡ true
  pub lb25_closed_once : place (letter ClosePunctuation ∷ letter ClosePunctuation ∷ letter Numeric ∷ []) (letter PrefixNumeric) [] ≡ Allowed
  pub lb25_closed_no_number : place (letter ClosePunctuation ∷ letter Numeric ∷ []) (letter Numeric) [] ≡ Allowed
  pub lb25_number : each (PrefixNumeric ∷ PostfixNumeric
      ∷ []) Prohibited (λ l. place (letter InfixNumeric ∷ letter BreakSymbols ∷ letter Numeric ∷ []) l []) ≡ true
  pub lb25_before : each (PrefixNumeric ∷ PostfixNumeric ∷ Hyphen ∷ InfixNumeric ∷ []) Prohibited (λ l. place (l ∷ []) (letter Numeric) []) ≡ true
  pub lb25_open : each (PrefixNumeric ∷ PostfixNumeric ∷ []) Prohibited (λ l. place (l ∷ []) (wide OpenPunctuation) (letter Numeric ∷ [])) ≡ true
  pub lb25_open_not_after_a_hyphen : place (letter Hyphen ∷ []) (letter OpenPunctuation) (letter Numeric ∷ []) ≡ Allowed
  pub lb25_open_not_a_point_alone : place (letter PrefixNumeric ∷ []) (letter OpenPunctuation) (letter InfixNumeric ∷ ideograph ∷ []) ≡ Allowed
  pub lb26_lead : each (Jl ∷ Jv ∷ H2 ∷ H3 ∷ []) Prohibited (λ l. place (letter Jl ∷ []) l []) ≡ true
  pub lb26_lead_not_before_a_final : place (letter Jl ∷ []) (letter Jt) [] ≡ Allowed
  pub lb26_vowel : each (Jv ∷ H2 ∷ []) Prohibited (λ l. place (l ∷ []) (letter Jv) []) ≡ true
  pub lb26_final : each (Jv ∷ H2 ∷ Jt ∷ H3 ∷ []) Prohibited (λ l. place (l ∷ []) (letter Jt) []) ≡ true
  pub lb26_not_after_a_final : each (Jt ∷ H3 ∷ []) Allowed (λ l. place (l ∷ []) (letter Jv) []) ≡ true
  pub lb27 : each jamo Prohibited (λ l. place (l ∷ []) (letter PostfixNumeric) []) ≡ true
  pub lb27_before : each jamo Prohibited (λ l. place (letter PrefixNumeric ∷ []) l []) ≡ true
  pub lb28 : each letters Prohibited (λ l. place (l ∷ []) (letter Alphabetic) []) ≡ true
  pub lb28_not_before_another : place (letter Alphabetic ∷ []) ideograph [] ≡ Allowed
  pub lb28a_prebase : each (Aksara ∷ AksaraStart ∷ []) Prohibited (λ l. place (letter AksaraPrebase ∷ []) l []) ≡ true
  pub lb28a_prebase_circle : place (letter AksaraPrebase ∷ []) circle [] ≡ Prohibited
  pub lb28a_after : each (Virama ∷ ViramaFinal ∷ []) Prohibited (λ l. place (letter AksaraStart ∷ []) l []) ≡ true
  pub lb28a_after_each : each (Aksara ∷ AksaraStart ∷ []) Prohibited (λ l. place (l ∷ []) (letter Virama) []) ≡ true
  pub lb28a_after_a_circle : place (circle ∷ []) (letter Virama) [] ≡ Prohibited
  pub lb28a_virama : each (Aksara ∷ AksaraStart ∷ []) Prohibited (λ l. place (letter Virama ∷ l ∷ []) (letter Aksara) []) ≡ true
  pub lb28a_virama_circles : place (letter Virama ∷ circle ∷ []) circle [] ≡ Prohibited
  pub lb28a_virama_not_before_a_start : place (letter Virama ∷ letter Aksara ∷ []) (letter AksaraStart) [] ≡ Allowed
  pub lb28a_final : each (Aksara ∷ AksaraStart ∷ []) Prohibited (λ l. place (letter AksaraStart ∷ []) l (letter ViramaFinal ∷ [])) ≡ true
  pub lb28a_final_circles : place (letter Aksara ∷ []) circle (letter ViramaFinal ∷ []) ≡ Prohibited
  pub lb29 : each letters Prohibited (λ l. place (letter InfixNumeric ∷ []) l []) ≡ true
  pub lb30 : each (Alphabetic ∷ HebrewLetter ∷ Numeric ∷ []) Prohibited (λ l. place (l ∷ []) (letter OpenPunctuation) []) ≡ true
  pub lb30_after : each (Alphabetic ∷ HebrewLetter ∷ Numeric ∷ []) Prohibited (λ l. place (letter CloseParenthesis ∷ []) l []) ≡ true
  pub lb30_not_after_a_wide_one : place (wide CloseParenthesis ∷ []) (letter Alphabetic) [] ≡ Allowed
  pub lb30a_after_two : place (letter RegionalIndicator ∷ letter RegionalIndicator ∷ letter RegionalIndicator ∷ []) (letter RegionalIndicator) [] ≡ Prohibited

pub record WorkedClasses : Type 0 where
  pub early : WorkedEarly
  pub late : WorkedLate

pub worked_early : WorkedEarly
worked_early = record {
  lb4_lb5 = refl;
  lb6 = refl;
  lb7 = refl;
  lb7_not_another = refl;
  lb8_at_once = refl;
  lb8a = refl;
  lb11_not_after_its_spaces = refl;
  lb12a_after_each = refl;
  lb13 = refl;
  lb13_after_spaces = refl;
  lb15a = refl;
  lb15a_not_of_another_quotation = refl;
  lb15b = refl;
  lb15b_not_of_another_quotation = refl;
  lb15c_not_without_a_space = refl;
  lb16 = refl;
  lb16_not_after_another = refl;
  lb17_not_before_another = refl;
  lb19a_before_a_narrow_one = refl;
  lb19a_after_a_narrow_one = refl;
  lb20_before_lb21 = refl;
  lb20_after_before_lb21 = refl;
}

pub worked_late : WorkedLate
worked_late = record {
  lb20a = refl;
  lb20a_either_hyphen = refl;
  lb20a_not_before_another = refl;
  lb21 = refl;
  lb21a = refl;
  lb21a_not_after_another = refl;
  lb23 = refl;
  lb23_after = refl;
  lb23a = refl;
  lb23a_after = refl;
  lb23a_not_the_other = refl;
  lb24 = refl;
  lb24_after = refl;
  lb25_closed = refl;
  lb25_closed_once = refl;
  lb25_closed_no_number = refl;
  lb25_number = refl;
  lb25_before = refl;
  lb25_open = refl;
  lb25_open_not_after_a_hyphen = refl;
  lb25_open_not_a_point_alone = refl;
  lb26_lead = refl;
  lb26_lead_not_before_a_final = refl;
  lb26_vowel = refl;
  lb26_final = refl;
  lb26_not_after_a_final = refl;
  lb27 = refl;
  lb27_before = refl;
  lb28 = refl;
  lb28_not_before_another = refl;
  lb28a_prebase = refl;
  lb28a_prebase_circle = refl;
  lb28a_after = refl;
  lb28a_after_each = refl;
  lb28a_after_a_circle = refl;
  lb28a_virama = refl;
  lb28a_virama_circles = refl;
  lb28a_virama_not_before_a_start = refl;
  lb28a_final = refl;
  lb28a_final_circles = refl;
  lb29 = refl;
  lb30 = refl;
  lb30_after = refl;
  lb30_not_after_a_wide_one = refl;
  lb30a_after_two = refl;
}

pub worked_classes : WorkedClasses
worked_classes = record { early = worked_early; late = worked_late }
