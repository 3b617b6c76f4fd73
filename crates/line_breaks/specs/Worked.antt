-- The rules on single places, worked out by hand from the standard: the letters before a place, the last one first, the one after it, and
-- those after that.
pub mod Classes
pub mod Texts
use Rattle.std.specs.Prelude.{◌≡◌, true, false, List, [], ◌∷◌, map, refl}
use Rattle.ucd_breaks.specs.declared.LineBreak.{LineBreak}
use Rattle.ucd_breaks.specs.declared.LineBreak.TheVariants.{Aksara, AksaraPrebase, AksaraStart, Alphabetic, BreakAfter, BreakBefore, BreakBoth}
use Rattle.ucd_breaks.specs.declared.LineBreak.TheVariants.{BreakSymbols, CarriageReturn, CloseParenthesis, ClosePunctuation, ContingentBreak, EBase}
use Rattle.ucd_breaks.specs.declared.LineBreak.TheVariants.{EModifier, Glue, H2, HebrewLetter, Hyphen, Ideographic, InfixNumeric, Inseparable, Jl, Jt}
use Rattle.ucd_breaks.specs.declared.LineBreak.TheVariants.{Jv, LineFeed, MandatoryBreak, NextLine, Nonstarter, Numeric, OpenPunctuation}
use Rattle.ucd_breaks.specs.declared.LineBreak.TheVariants.{PostfixNumeric, PrefixNumeric, Quotation, RegionalIndicator, Space, UnambiguousHyphen}
use Rattle.ucd_breaks.specs.declared.LineBreak.TheVariants.{Virama, ViramaFinal, WordJoiner, ZWSpace}
use Rattle.line_breaks.specs.Breaks.{verdict_between}
use Rattle.line_breaks.specs.Letters.{edge}
use Rattle.line_breaks.specs.Units.{unit}
use Rattle.line_breaks.specs.declared.letters.Letter.{Letter}
use Rattle.line_breaks.specs.declared.rules.Verdict.{Verdict}
use Rattle.line_breaks.specs.declared.rules.Verdict.TheVariants.{Mandatory, Allowed, Prohibited}
use Rattle.line_breaks.specs.declared.units.Unit.{Unit}

abbrev pub letter : LineBreak → Letter
letter class = record edge { class = class }

abbrev pub opening : LineBreak → Letter
opening class = record edge { class = class; opens = true }

abbrev pub closing : LineBreak → Letter
closing class = record edge { class = class; closes = true }

abbrev pub wide : LineBreak → Letter
wide class = record edge { class = class; wide = true }

abbrev pub reserved : LineBreak → Letter
reserved class = record edge { class = class; reserved = true }

abbrev pub alone : Letter → Unit
alone l = unit 0 l false

abbrev pub place : List Letter → Letter → List Letter → Verdict
place before after rest = verdict_between (map alone before) (alone after) (map alone rest)

pub record WorkedRules : Type 0 where
  pub lb2_never_before_the_text : place ([]) (letter Alphabetic) ([]) ≡ Prohibited
  pub lb4 : place (letter MandatoryBreak ∷ []) (letter Alphabetic) ([]) ≡ Mandatory
  pub lb5_not_within : place (letter CarriageReturn ∷ []) (letter LineFeed) ([]) ≡ Prohibited
  pub lb5 : place (letter CarriageReturn ∷ []) (letter Alphabetic) ([]) ≡ Mandatory
  pub lb6 : place (letter Alphabetic ∷ []) (letter NextLine) ([]) ≡ Prohibited
  pub lb7 : place (letter Alphabetic ∷ []) (letter Space) ([]) ≡ Prohibited
  pub lb8 : place (letter Space ∷ letter ZWSpace ∷ []) (letter Alphabetic) ([]) ≡ Allowed
  pub lb11_before : place (letter Ideographic ∷ []) (letter WordJoiner) ([]) ≡ Prohibited
  pub lb11_after : place (letter WordJoiner ∷ []) (letter Ideographic) ([]) ≡ Prohibited
  pub lb12 : place (letter Glue ∷ []) (letter Ideographic) ([]) ≡ Prohibited
  pub lb12a : place (letter Ideographic ∷ []) (letter Glue) ([]) ≡ Prohibited
  pub lb12a_not_after_a_space : place (letter Space ∷ []) (letter Glue) ([]) ≡ Allowed
  pub lb13 : place (letter Ideographic ∷ []) (letter ClosePunctuation) ([]) ≡ Prohibited
  pub lb14 : place (letter Space ∷ letter Space ∷ letter OpenPunctuation ∷ []) (letter Ideographic) ([]) ≡ Prohibited
  pub lb15a : place (letter Space ∷ opening Quotation ∷ []) (letter Ideographic) ([]) ≡ Prohibited
  pub lb15a_not_after_another : place (letter Space ∷ opening Quotation ∷ letter Ideographic ∷ []) (letter Ideographic) ([]) ≡ Allowed
  pub lb15b : place (letter Space ∷ []) (closing Quotation) (letter Space ∷ []) ≡ Prohibited
  pub lb15b_at_the_end : place (letter Space ∷ []) (closing Quotation) ([]) ≡ Prohibited
  pub lb15b_not_before_another : place (letter Space ∷ []) (closing Quotation) (letter Ideographic ∷ []) ≡ Allowed
  pub lb15c : place (letter Space ∷ []) (letter InfixNumeric) (letter Numeric ∷ []) ≡ Allowed
  pub lb15d : place (letter Space ∷ []) (letter InfixNumeric) (letter Alphabetic ∷ []) ≡ Prohibited
  pub lb16 : place (letter Space ∷ letter ClosePunctuation ∷ []) (letter Nonstarter) ([]) ≡ Prohibited
  pub lb17 : place (letter Space ∷ letter BreakBoth ∷ []) (letter BreakBoth) ([]) ≡ Prohibited
  pub lb18 : place (letter Space ∷ []) (letter Ideographic) ([]) ≡ Allowed
  pub lb19_before : place (wide Ideographic ∷ []) (closing Quotation) (wide Ideographic ∷ []) ≡ Prohibited
  pub lb19_after : place (opening Quotation ∷ wide Ideographic ∷ []) (wide Ideographic) ([]) ≡ Prohibited
  pub lb19a : place (letter Ideographic ∷ []) (opening Quotation) (wide Ideographic ∷ []) ≡ Prohibited
  pub lb19a_not_among_wide : place (wide Ideographic ∷ []) (opening Quotation) (wide Ideographic ∷ []) ≡ Allowed
  pub lb19a_after : place (closing Quotation ∷ wide Ideographic ∷ []) (letter Ideographic) ([]) ≡ Prohibited
  pub lb19a_not_after : place (closing Quotation ∷ wide Ideographic ∷ []) (wide Ideographic) ([]) ≡ Allowed
  pub lb20 : place (letter Alphabetic ∷ []) (letter ContingentBreak) ([]) ≡ Allowed
  pub lb20a : place (letter Hyphen ∷ letter Space ∷ []) (letter Alphabetic) ([]) ≡ Prohibited
  pub lb20a_not_in_a_word : place (letter Hyphen ∷ letter Ideographic ∷ []) (letter Alphabetic) ([]) ≡ Allowed
  pub lb21 : place (letter Ideographic ∷ []) (letter BreakAfter) ([]) ≡ Prohibited
  pub lb21_hyphen : place (letter Ideographic ∷ []) (letter UnambiguousHyphen) ([]) ≡ Prohibited
  pub lb21_before : place (letter BreakBefore ∷ []) (letter Ideographic) ([]) ≡ Prohibited
  pub lb21a : place (letter Hyphen ∷ letter HebrewLetter ∷ []) (letter Ideographic) ([]) ≡ Prohibited
  pub lb21a_not_between : place (letter Hyphen ∷ letter HebrewLetter ∷ []) (letter HebrewLetter) ([]) ≡ Allowed
  pub lb21b : place (letter BreakSymbols ∷ []) (letter HebrewLetter) ([]) ≡ Prohibited
  pub lb22 : place (letter Ideographic ∷ []) (letter Inseparable) ([]) ≡ Prohibited
  pub lb23 : place (letter Alphabetic ∷ []) (letter Numeric) ([]) ≡ Prohibited
  pub lb23_after : place (letter Numeric ∷ []) (letter HebrewLetter) ([]) ≡ Prohibited
  pub lb23a : place (letter PrefixNumeric ∷ []) (letter Ideographic) ([]) ≡ Prohibited
  pub lb23a_after : place (letter EBase ∷ []) (letter PostfixNumeric) ([]) ≡ Prohibited
  pub lb24 : place (letter PrefixNumeric ∷ []) (letter Alphabetic) ([]) ≡ Prohibited
  pub lb24_after : place (letter Alphabetic ∷ []) (letter PostfixNumeric) ([]) ≡ Prohibited
  pub lb25_after_a_number : place (letter ClosePunctuation ∷ letter InfixNumeric ∷ letter Numeric ∷ []) (letter PostfixNumeric) ([]) ≡ Prohibited
  pub lb25_not_without_one : place (letter ClosePunctuation ∷ letter Ideographic ∷ []) (letter PostfixNumeric) ([]) ≡ Allowed
  pub lb25_within : place (letter BreakSymbols ∷ letter Numeric ∷ []) (letter Numeric) ([]) ≡ Prohibited
  pub lb25_not_within : place (letter BreakSymbols ∷ letter Ideographic ∷ []) (letter Numeric) ([]) ≡ Allowed
  pub lb25_sign : place (letter Hyphen ∷ []) (letter Numeric) ([]) ≡ Prohibited
  pub lb25_before : place (letter PrefixNumeric ∷ []) (letter OpenPunctuation) (letter Numeric ∷ []) ≡ Prohibited
  pub lb25_before_a_point : place (letter PostfixNumeric ∷ []) (letter OpenPunctuation) (letter InfixNumeric ∷ letter Numeric ∷ []) ≡ Prohibited
  pub lb25_not_before_a_letter : place (letter PrefixNumeric ∷ []) (letter OpenPunctuation) (letter Alphabetic ∷ []) ≡ Allowed
  pub lb26 : place (letter Jl ∷ []) (letter Jv) ([]) ≡ Prohibited
  pub lb26_vowel : place (letter H2 ∷ []) (letter Jt) ([]) ≡ Prohibited
  pub lb26_not_backwards : place (letter Jv ∷ []) (letter Jl) ([]) ≡ Allowed
  pub lb27 : place (letter Jt ∷ []) (letter PostfixNumeric) ([]) ≡ Prohibited
  pub lb28 : place (letter Alphabetic ∷ []) (letter HebrewLetter) ([]) ≡ Prohibited
  pub lb28a : place (letter AksaraPrebase ∷ []) (letter Aksara) ([]) ≡ Prohibited
  pub lb28a_virama : place (letter Virama ∷ letter Aksara ∷ []) (letter Aksara) ([]) ≡ Prohibited
  pub lb28a_final : place (letter Aksara ∷ []) (letter AksaraStart) (letter ViramaFinal ∷ []) ≡ Prohibited
  pub lb28a_not_without : place (letter Aksara ∷ []) (letter AksaraStart) ([]) ≡ Allowed
  pub lb29 : place (letter InfixNumeric ∷ []) (letter Alphabetic) ([]) ≡ Prohibited
  pub lb30 : place (letter Alphabetic ∷ []) (letter OpenPunctuation) ([]) ≡ Prohibited
  pub lb30_not_wide : place (letter Alphabetic ∷ []) (wide OpenPunctuation) ([]) ≡ Allowed
  pub lb30_after : place (letter CloseParenthesis ∷ []) (letter Numeric) ([]) ≡ Prohibited
  pub lb30a : place (letter RegionalIndicator ∷ letter Ideographic ∷ []) (letter RegionalIndicator) ([]) ≡ Prohibited
  pub lb30a_not_two : place (letter RegionalIndicator ∷ letter RegionalIndicator ∷ []) (letter RegionalIndicator) ([]) ≡ Allowed
  pub lb30b : place (letter EBase ∷ []) (letter EModifier) ([]) ≡ Prohibited
  pub lb30b_reserved : place (reserved Ideographic ∷ []) (letter EModifier) ([]) ≡ Prohibited
  pub lb30b_no_base : place (letter Ideographic ∷ []) (letter EModifier) ([]) ≡ Allowed
  pub lb31 : place (letter Ideographic ∷ []) (letter Ideographic) ([]) ≡ Allowed

pub worked_rules : WorkedRules
worked_rules = record {
  lb2_never_before_the_text = refl;
  lb4 = refl;
  lb5_not_within = refl;
  lb5 = refl;
  lb6 = refl;
  lb7 = refl;
  lb8 = refl;
  lb11_before = refl;
  lb11_after = refl;
  lb12 = refl;
  lb12a = refl;
  lb12a_not_after_a_space = refl;
  lb13 = refl;
  lb14 = refl;
  lb15a = refl;
  lb15a_not_after_another = refl;
  lb15b = refl;
  lb15b_at_the_end = refl;
  lb15b_not_before_another = refl;
  lb15c = refl;
  lb15d = refl;
  lb16 = refl;
  lb17 = refl;
  lb18 = refl;
  lb19_before = refl;
  lb19_after = refl;
  lb19a = refl;
  lb19a_not_among_wide = refl;
  lb19a_after = refl;
  lb19a_not_after = refl;
  lb20 = refl;
  lb20a = refl;
  lb20a_not_in_a_word = refl;
  lb21 = refl;
  lb21_hyphen = refl;
  lb21_before = refl;
  lb21a = refl;
  lb21a_not_between = refl;
  lb21b = refl;
  lb22 = refl;
  lb23 = refl;
  lb23_after = refl;
  lb23a = refl;
  lb23a_after = refl;
  lb24 = refl;
  lb24_after = refl;
  lb25_after_a_number = refl;
  lb25_not_without_one = refl;
  lb25_within = refl;
  lb25_not_within = refl;
  lb25_sign = refl;
  lb25_before = refl;
  lb25_before_a_point = refl;
  lb25_not_before_a_letter = refl;
  lb26 = refl;
  lb26_vowel = refl;
  lb26_not_backwards = refl;
  lb27 = refl;
  lb28 = refl;
  lb28a = refl;
  lb28a_virama = refl;
  lb28a_final = refl;
  lb28a_not_without = refl;
  lb29 = refl;
  lb30 = refl;
  lb30_not_wide = refl;
  lb30_after = refl;
  lb30a = refl;
  lb30a_not_two = refl;
  lb30b = refl;
  lb30b_reserved = refl;
  lb30b_no_base = refl;
  lb31 = refl;
}
