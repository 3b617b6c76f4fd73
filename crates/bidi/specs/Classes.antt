-- Groups of bidirectional classes.
use Rattle.std.specs.Prelude.{ℕ, ◌==◌, ◌%◌, ◌||◌, Bool, if◌then◌else◌}
use Rattle.ucd_bidi.specs.BidiClass.{bidi_class_number}
use Rattle.ucd_bidi.specs.declared.BidiClass.{BidiClass}
use Rattle.ucd_bidi.specs.declared.BidiClass.TheVariants.{ArabicLetter, ArabicNumber, BoundaryNeutral, EuropeanNumber, FirstStrongIsolate}
use Rattle.ucd_bidi.specs.declared.BidiClass.TheVariants.{LeftToRight, LeftToRightEmbedding, LeftToRightIsolate, LeftToRightOverride, OtherNeutral}
use Rattle.ucd_bidi.specs.declared.BidiClass.TheVariants.{ParagraphSeparator, PopDirectionalFormat, PopDirectionalIsolate, RightToLeft}
use Rattle.ucd_bidi.specs.declared.BidiClass.TheVariants.{RightToLeftEmbedding, RightToLeftIsolate, RightToLeftOverride, SegmentSeparator, WhiteSpace}

abbrev pub is : BidiClass → BidiClass → Bool
is class other = bidi_class_number class == bidi_class_number other

-- L, R, AL
abbrev pub is_strong : BidiClass → Bool
is_strong class = is class LeftToRight || (is class RightToLeft || is class ArabicLetter)

-- BD8: LRI, RLI, FSI
abbrev pub is_initiator : BidiClass → Bool
is_initiator class = is class LeftToRightIsolate || (is class RightToLeftIsolate || is class FirstStrongIsolate)

abbrev pub is_isolate : BidiClass → Bool
is_isolate class = is_initiator class || is class PopDirectionalIsolate

-- X9: RLE, LRE, RLO, LRO, PDF, BN
abbrev pub is_removed : BidiClass → Bool
is_removed class = is class LeftToRightEmbedding || (is class RightToLeftEmbedding
    || (is class LeftToRightOverride || (is class RightToLeftOverride
    || (is class PopDirectionalFormat || is class BoundaryNeutral))))

-- NI: B, S, WS, ON, FSI, LRI, RLI, PDI
abbrev pub is_neutral : BidiClass → Bool
is_neutral class = is class OtherNeutral || (is class WhiteSpace || (is class SegmentSeparator || (is class ParagraphSeparator || is_isolate class)))

-- EN, AN
abbrev pub is_number : BidiClass → Bool
is_number class = is class EuropeanNumber || is class ArabicNumber

-- among neutral characters numbers act as R
abbrev pub direction : BidiClass → BidiClass
direction class = if is class LeftToRight then LeftToRight else RightToLeft

-- L, and R, EN and AN, which act as R in N0
abbrev pub is_directed : BidiClass → Bool
is_directed class = is class LeftToRight || (is class RightToLeft || (is class EuropeanNumber || is class ArabicNumber))

-- BD2: an even level is left to right
abbrev pub of_level : ℕ → BidiClass
of_level level = if level % 2 == 0 then LeftToRight else RightToLeft
