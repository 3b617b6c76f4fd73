-- Texts in which nothing is right to left.
use Rattle.std.specs.Prelude.{Bool, true, false}
use Rattle.ucd_bidi.specs.declared.BidiClass.{BidiClass}
use Rattle.ucd_bidi.specs.declared.BidiClass.TheVariants.{BoundaryNeutral, CommonSeparator, EuropeanNumber, EuropeanSeparator, EuropeanTerminator}
use Rattle.ucd_bidi.specs.declared.BidiClass.TheVariants.{LeftToRight, NonspacingMark, OtherNeutral, ParagraphSeparator, SegmentSeparator, WhiteSpace}

-- neither R, AL and AN nor the characters that embed, override and isolate
abbrev pub is_left : BidiClass → Bool
is_left LeftToRight = true
is_left EuropeanNumber = true
is_left EuropeanSeparator = true
is_left EuropeanTerminator = true
is_left CommonSeparator = true
is_left NonspacingMark = true
is_left BoundaryNeutral = true
is_left ParagraphSeparator = true
is_left SegmentSeparator = true
is_left WhiteSpace = true
is_left OtherNeutral = true
is_left _ = false
