-- The rules LB4 to LB31 of UAX 14, each under its number: whether it speaks of a place. `×` prohibits a break, `÷` allows
-- one, `!` demands one.
use Rattle.std.specs.Prelude.{◌&&◌, ◌||◌, not, Bool, if◌then◌else◌}
use Rattle.ucd_breaks.specs.declared.LineBreak.TheVariants.{Aksara, AksaraPrebase, AksaraStart, Alphabetic, BreakAfter, BreakBefore, BreakBoth}
use Rattle.ucd_breaks.specs.declared.LineBreak.TheVariants.{BreakSymbols, CarriageReturn, CloseParenthesis, ClosePunctuation, ContingentBreak, EBase}
use Rattle.ucd_breaks.specs.declared.LineBreak.TheVariants.{EModifier, Exclamation, Glue, H2, H3, HebrewLetter, Hyphen, Ideographic, InfixNumeric}
use Rattle.ucd_breaks.specs.declared.LineBreak.TheVariants.{Inseparable, Jl, Jt, Jv, LineFeed, MandatoryBreak, NextLine, Nonstarter, Numeric}
use Rattle.ucd_breaks.specs.declared.LineBreak.TheVariants.{OpenPunctuation, PostfixNumeric, PrefixNumeric, Quotation, RegionalIndicator, Space}
use Rattle.ucd_breaks.specs.declared.LineBreak.TheVariants.{UnambiguousHyphen, Virama, ViramaFinal, WordJoiner, ZWSpace}
use Rattle.line_breaks.specs.Letters.{is}
use Rattle.line_breaks.specs.declared.rules.Around.{Around}
use Rattle.line_breaks.specs.declared.rules.Verdict.{Verdict}
use Rattle.line_breaks.specs.declared.rules.Verdict.TheVariants.{Mandatory, Allowed, Prohibited}

-- LB4: BK !
abbrev pub lb4 : Around → Bool
lb4 around = is around.before.one MandatoryBreak

-- LB5: CR × LF
abbrev pub lb5_crlf : Around → Bool
lb5_crlf around = is around.before.one CarriageReturn && is around.after LineFeed

-- LB5: CR !, LF !, NL !
abbrev pub lb5 : Around → Bool
lb5 around = is around.before.one CarriageReturn || (is around.before.one LineFeed || is around.before.one NextLine)

-- LB6: × (BK | CR | LF | NL)
abbrev pub lb6 : Around → Bool
lb6 around = is around.after MandatoryBreak || (is around.after CarriageReturn || (is around.after LineFeed || is around.after NextLine))

-- LB7: × SP, × ZW
abbrev pub lb7 : Around → Bool
lb7 around = is around.after Space || is around.after ZWSpace

-- LB8: ZW SP* ÷
abbrev pub lb8 : Around → Bool
lb8 around = is around.before.base ZWSpace

-- LB8a: ZWJ ×
abbrev pub lb8a : Around → Bool
lb8a around = around.joined

-- LB11: × WJ, WJ ×
abbrev pub lb11 : Around → Bool
lb11 around = is around.after WordJoiner || is around.before.one WordJoiner

-- LB12: GL ×
abbrev pub lb12 : Around → Bool
lb12 around = is around.before.one Glue

-- LB12a: [^SP BA HY HH] × GL
abbrev pub lb12a : Around → Bool
lb12a around = is around.after Glue && not (is around.before.one Space
    || (is around.before.one BreakAfter || (is around.before.one Hyphen || is around.before.one UnambiguousHyphen)))

-- LB13: × CL, × CP, × EX, × SY
abbrev pub lb13 : Around → Bool
lb13 around = is around.after ClosePunctuation || (is around.after CloseParenthesis || (is around.after Exclamation || is around.after BreakSymbols))

-- LB14: OP SP* ×
abbrev pub lb14 : Around → Bool
lb14 around = is around.before.base OpenPunctuation

-- LB15a: (sot | BK | CR | LF | NL | OP | QU | GL | SP | ZW) [Pi & QU] SP* ×
abbrev pub lb15a : Around → Bool
lb15a around = is around.before.base Quotation && (around.before.base.opens
    && (is around.before.base_two MandatoryBreak || (is around.before.base_two CarriageReturn
    || (is around.before.base_two LineFeed || (is around.before.base_two NextLine
    || (is around.before.base_two OpenPunctuation || (is around.before.base_two Quotation
    || (is around.before.base_two Glue || (is around.before.base_two Space || is around.before.base_two ZWSpace)))))))))

-- LB15b: × [Pf & QU] (SP | GL | WJ | CL | QU | CP | EX | IS | SY | BK | CR | LF | NL | ZW | eot)
abbrev pub lb15b : Around → Bool
lb15b around = is around.after Quotation && (around.after.closes
    && (is around.next Space || (is around.next Glue || (is around.next WordJoiner
    || (is around.next ClosePunctuation || (is around.next Quotation
    || (is around.next CloseParenthesis || (is around.next Exclamation
    || (is around.next InfixNumeric || (is around.next BreakSymbols
    || (is around.next MandatoryBreak || (is around.next CarriageReturn
    || (is around.next LineFeed || (is around.next NextLine || is around.next ZWSpace))))))))))))))

-- LB15c: SP ÷ IS NU
abbrev pub lb15c : Around → Bool
lb15c around = is around.before.one Space && (is around.after InfixNumeric && is around.next Numeric)

-- LB15d: × IS
abbrev pub lb15d : Around → Bool
lb15d around = is around.after InfixNumeric

-- LB16: (CL | CP) SP* × NS
abbrev pub lb16 : Around → Bool
lb16 around = (is around.before.base ClosePunctuation || is around.before.base CloseParenthesis) && is around.after Nonstarter

-- LB17: B2 SP* × B2
abbrev pub lb17 : Around → Bool
lb17 around = is around.before.base BreakBoth && is around.after BreakBoth

-- LB18: SP ÷
abbrev pub lb18 : Around → Bool
lb18 around = is around.before.one Space

-- LB19: × [QU - Pi], [QU - Pf] ×
abbrev pub lb19 : Around → Bool
lb19 around = (is around.after Quotation && not (around.after.opens)) || (is around.before.one Quotation && not (around.before.one.closes))

-- LB19a: [^EastAsian] × QU, × QU ([^EastAsian] | eot), QU × [^EastAsian], (sot | [^EastAsian]) QU ×
abbrev pub lb19a : Around → Bool
lb19a around = (is around.after Quotation && (not (around.before.one.wide) || not (around.next.wide)))
    || (is around.before.one Quotation && (not (around.after.wide) || not (around.before.two.wide)))

-- LB20: ÷ CB, CB ÷
abbrev pub lb20 : Around → Bool
lb20 around = is around.after ContingentBreak || is around.before.one ContingentBreak

-- LB20a: (sot | BK | CR | LF | NL | SP | ZW | CB | GL) (HY | HH) × (AL | HL)
abbrev pub lb20a : Around → Bool
lb20a around = (is around.before.one Hyphen || is around.before.one UnambiguousHyphen)
    && ((is around.after Alphabetic || is around.after HebrewLetter)
    && (is around.before.two MandatoryBreak || (is around.before.two CarriageReturn
    || (is around.before.two LineFeed || (is around.before.two NextLine
    || (is around.before.two Space || (is around.before.two ZWSpace
    || (is around.before.two ContingentBreak || is around.before.two Glue))))))))

-- LB21: × BA, × HH, × HY, × NS, BB ×
abbrev pub lb21 : Around → Bool
lb21 around = is around.after BreakAfter || (is around.after UnambiguousHyphen
    || (is around.after Hyphen || (is around.after Nonstarter || is around.before.one BreakBefore)))

-- LB21a: HL (HY | HH) × [^HL]
abbrev pub lb21a : Around → Bool
lb21a around = is around.before.two HebrewLetter && ((is around.before.one Hyphen
    || is around.before.one UnambiguousHyphen) && not (is around.after HebrewLetter))

-- LB21b: SY × HL
abbrev pub lb21b : Around → Bool
lb21b around = is around.before.one BreakSymbols && is around.after HebrewLetter

-- LB22: × IN
abbrev pub lb22 : Around → Bool
lb22 around = is around.after Inseparable

-- LB23: (AL | HL) × NU, NU × (AL | HL)
abbrev pub lb23 : Around → Bool
lb23 around = ((is around.before.one Alphabetic || is around.before.one HebrewLetter)
    && is around.after Numeric) || (is around.before.one Numeric
    && (is around.after Alphabetic || is around.after HebrewLetter))

-- LB23a: PR × (ID | EB | EM), (ID | EB | EM) × PO
abbrev pub lb23a : Around → Bool
lb23a around = (is around.before.one PrefixNumeric && (is around.after Ideographic
    || (is around.after EBase || is around.after EModifier)))
    || ((is around.before.one Ideographic || (is around.before.one EBase || is around.before.one EModifier))
    && is around.after PostfixNumeric)

-- LB24: (PR | PO) × (AL | HL), (AL | HL) × (PR | PO)
abbrev pub lb24 : Around → Bool
lb24 around = ((is around.before.one PrefixNumeric || is around.before.one PostfixNumeric)
    && (is around.after Alphabetic || is around.after HebrewLetter))
    || ((is around.before.one Alphabetic || is around.before.one HebrewLetter)
    && (is around.after PrefixNumeric || is around.after PostfixNumeric))

-- LB25: NU (SY | IS)* (CL | CP)? × (PO | PR), NU (SY | IS)* × NU
abbrev pub lb25_after : Around → Bool
lb25_after around = ((around.before.closed || around.before.number)
    && (is around.after PostfixNumeric || is around.after PrefixNumeric))
    || (around.before.number && is around.after Numeric)

-- LB25: (PO | PR) × OP NU, (PO | PR) × OP IS NU, (PO | PR | HY | IS) × NU
abbrev pub lb25_before : Around → Bool
lb25_before around = ((is around.before.one PostfixNumeric
    || (is around.before.one PrefixNumeric || (is around.before.one Hyphen
    || is around.before.one InfixNumeric))) && is around.after Numeric)
    || ((is around.before.one PostfixNumeric || is around.before.one PrefixNumeric)
    && (is around.after OpenPunctuation && (is around.next Numeric
    || (is around.next InfixNumeric && is around.third Numeric))))

-- LB26: JL × (JL | JV | H2 | H3), (JV | H2) × (JV | JT), (JT | H3) × JT
abbrev pub lb26 : Around → Bool
lb26 around = (is around.before.one Jl && (is around.after Jl
    || (is around.after Jv || (is around.after H2 || is around.after H3))))
    || (((is around.before.one Jv || is around.before.one H2) && (is around.after Jv || is around.after Jt))
    || ((is around.before.one Jt || is around.before.one H3) && is around.after Jt))

-- LB27: (JL | JV | JT | H2 | H3) × PO, PR × (JL | JV | JT | H2 | H3)
abbrev pub lb27 : Around → Bool
lb27 around = ((is around.before.one Jl || (is around.before.one Jv
    || (is around.before.one Jt || (is around.before.one H2 || is around.before.one H3))))
    && is around.after PostfixNumeric) || (is around.before.one PrefixNumeric
    && (is around.after Jl || (is around.after Jv || (is around.after Jt
    || (is around.after H2 || is around.after H3)))))

-- LB28: (AL | HL) × (AL | HL)
abbrev pub lb28 : Around → Bool
lb28 around = (is around.before.one Alphabetic || is around.before.one HebrewLetter) && (is around.after Alphabetic || is around.after HebrewLetter)

-- LB28a: AP × (AK | ◌ | AS), (AK | ◌ | AS) × (VF | VI)
abbrev pub lb28a_first : Around → Bool
lb28a_first around = (is around.before.one AksaraPrebase
    && (is around.after Aksara || (around.after.circle || is around.after AksaraStart)))
    || ((is around.before.one Aksara || (around.before.one.circle || is around.before.one AksaraStart))
    && (is around.after ViramaFinal || is around.after Virama))

-- LB28a: (AK | ◌ | AS) VI × (AK | ◌), (AK | ◌ | AS) × (AK | ◌ | AS) VF
abbrev pub lb28a_second : Around → Bool
lb28a_second around = ((is around.before.two Aksara || (around.before.two.circle
    || is around.before.two AksaraStart)) && (is around.before.one Virama
    && (is around.after Aksara || around.after.circle)))
    || ((is around.before.one Aksara || (around.before.one.circle || is around.before.one AksaraStart))
    && ((is around.after Aksara || (around.after.circle || is around.after AksaraStart)) && is around.next ViramaFinal))

-- LB29: IS × (AL | HL)
abbrev pub lb29 : Around → Bool
lb29 around = is around.before.one InfixNumeric && (is around.after Alphabetic || is around.after HebrewLetter)

-- LB30: (AL | HL | NU) × [OP - EastAsian], [CP - EastAsian] × (AL | HL | NU)
abbrev pub lb30 : Around → Bool
lb30 around = ((is around.before.one Alphabetic || (is around.before.one HebrewLetter
    || is around.before.one Numeric)) && (is around.after OpenPunctuation && not (around.after.wide)))
    || (is around.before.one CloseParenthesis && (not (around.before.one.wide)
    && (is around.after Alphabetic || (is around.after HebrewLetter || is around.after Numeric))))

-- LB30a: sot (RI RI)* RI × RI, [^RI] (RI RI)* RI × RI
abbrev pub lb30a : Around → Bool
lb30a around = around.before.odd && is around.after RegionalIndicator

-- LB30b: EB × EM, [Extended_Pictographic & Cn] × EM
abbrev pub lb30b : Around → Bool
lb30b around = (is around.before.one EBase || around.before.one.reserved) && is around.after EModifier

-- LB28a to LB30b, and LB31: a line may end everywhere else
abbrev pub letter_rules : Around → Verdict
letter_rules around =
    if lb28a_second around then Prohibited else
    if lb29 around then Prohibited else
    if lb30 around then Prohibited else
    if lb30a around then Prohibited else
    if lb30b around then Prohibited else
    Allowed

-- LB24 to LB28a, and then the rules after them
abbrev pub number_rules : Around → Verdict
number_rules around =
    if lb24 around then Prohibited else
    if lb25_after around then Prohibited else
    if lb25_before around then Prohibited else
    if lb26 around then Prohibited else
    if lb27 around then Prohibited else
    if lb28 around then Prohibited else
    if lb28a_first around then Prohibited else
    letter_rules around

-- LB20a to LB23a, and then the rules after them
abbrev pub hyphen_rules : Around → Verdict
hyphen_rules around =
    if lb20a around then Prohibited else
    if lb21 around then Prohibited else
    if lb21a around then Prohibited else
    if lb21b around then Prohibited else
    if lb22 around then Prohibited else
    if lb23 around then Prohibited else
    if lb23a around then Prohibited else
    number_rules around

-- LB15c to LB20, and then the rules after them
abbrev pub quotation_rules : Around → Verdict
quotation_rules around =
    if lb15c around then Allowed else
    if lb15d around then Prohibited else
    if lb16 around then Prohibited else
    if lb17 around then Prohibited else
    if lb18 around then Allowed else
    if lb19 around then Prohibited else
    if lb19a around then Prohibited else
    if lb20 around then Allowed else
    hyphen_rules around

-- LB11 to LB15b, and then the rules after them
abbrev pub space_rules : Around → Verdict
space_rules around =
    if lb11 around then Prohibited else
    if lb12 around then Prohibited else
    if lb12a around then Prohibited else
    if lb13 around then Prohibited else
    if lb14 around then Prohibited else
    if lb15a around then Prohibited else
    if lb15b around then Prohibited else
    quotation_rules around

-- LB4 to LB8a, and then the rules after them
abbrev pub first_rules : Around → Verdict
first_rules around =
    if lb4 around then Mandatory else
    if lb5_crlf around then Prohibited else
    if lb5 around then Mandatory else
    if lb6 around then Prohibited else
    if lb7 around then Prohibited else
    if lb8 around then Allowed else
    if lb8a around then Prohibited else
    space_rules around

-- what the rules say of a place between two units: the first one that speaks
abbrev pub verdict_of : Around → Verdict
verdict_of around = first_rules around
