-- The rules W1 to W7, each over the classes of an isolating run sequence.
use Rattle.std.specs.Prelude.{◌&&◌, ◌||◌, Bool, false, List, [], ◌∷◌, map, if◌then◌else◌}
use Rattle.ucd_bidi.specs.declared.BidiClass.{BidiClass}
use Rattle.ucd_bidi.specs.declared.BidiClass.TheVariants.{ArabicLetter, ArabicNumber, CommonSeparator, EuropeanNumber, EuropeanSeparator}
use Rattle.ucd_bidi.specs.declared.BidiClass.TheVariants.{EuropeanTerminator, LeftToRight, NonspacingMark, OtherNeutral, RightToLeft}
use Rattle.bidi.specs.Classes.{is, is_isolate, is_strong}

-- W1: a mark takes the class of the character before it, of sos at the start, and ON after an isolate initiator or a PDI
abbrev pub w1_class : BidiClass → BidiClass → BidiClass
w1_class before class =
    if is class NonspacingMark then (if is_isolate before then OtherNeutral else before)
    else class

abbrev pub w1 : BidiClass → List BidiClass → List BidiClass
w1 before [] = []
w1 before (class ∷ classes) = w1_class before class ∷ w1 (w1_class before class) classes

-- the last strong class, after one more
abbrev pub strong_then : BidiClass → BidiClass → BidiClass
strong_then strong class = if is_strong class then class else strong

-- W2: EN becomes AN if the last strong class is AL
abbrev pub w2_class : BidiClass → BidiClass → BidiClass
w2_class strong class = if is class EuropeanNumber && is strong ArabicLetter then ArabicNumber else class

abbrev pub w2 : BidiClass → List BidiClass → List BidiClass
w2 strong [] = []
w2 strong (class ∷ classes) = w2_class strong class ∷ w2 (strong_then strong class) classes

-- W3: AL becomes R
abbrev pub w3_class : BidiClass → BidiClass
w3_class class = if is class ArabicLetter then RightToLeft else class

abbrev pub w3 : List BidiClass → List BidiClass
w3 = map w3_class

-- W4: a single ES between EN becomes EN; a single CS between numbers of one class becomes that class
abbrev pub w4_class : BidiClass → BidiClass → BidiClass → BidiClass
w4_class before class after =
    if (is class EuropeanSeparator || is class CommonSeparator) && (is before EuropeanNumber && is after EuropeanNumber) then EuropeanNumber
    else if is class CommonSeparator && (is before ArabicNumber && is after ArabicNumber) then ArabicNumber
    else class

-- the next class, or one that is no number's
abbrev pub next_class : List BidiClass → BidiClass
next_class [] = OtherNeutral
next_class (class ∷ classes) = class

abbrev pub w4 : BidiClass → List BidiClass → List BidiClass
w4 before [] = []
w4 before (class ∷ classes) = w4_class before class (next_class classes) ∷ w4 class classes

-- W5: a sequence of ET beside EN becomes EN: EN is before it, or comes after it
abbrev pub leads_to_number : List BidiClass → Bool
leads_to_number [] = false
leads_to_number (class ∷ classes) = if is class EuropeanTerminator then leads_to_number classes else is class EuropeanNumber

abbrev pub w5_class : BidiClass → BidiClass → Bool → BidiClass
w5_class before class leads =
    if is class EuropeanTerminator && (is before EuropeanNumber || leads) then EuropeanNumber else class

abbrev pub w5 : BidiClass → List BidiClass → List BidiClass
w5 before [] = []
w5 before (class ∷ classes) =
    w5_class before class (leads_to_number classes) ∷ w5 (w5_class before class (leads_to_number classes)) classes

-- W6: separators and terminators that are left become ON
abbrev pub w6_class : BidiClass → BidiClass
w6_class class =
    if is class EuropeanSeparator || (is class EuropeanTerminator || is class CommonSeparator) then OtherNeutral else class

abbrev pub w6 : List BidiClass → List BidiClass
w6 = map w6_class

-- W7: EN becomes L if the last strong class is L
abbrev pub w7_class : BidiClass → BidiClass → BidiClass
w7_class strong class = if is class EuropeanNumber && is strong LeftToRight then LeftToRight else class

abbrev pub w7 : BidiClass → List BidiClass → List BidiClass
w7 strong [] = []
w7 strong (class ∷ classes) = w7_class strong class ∷ w7 (strong_then strong class) classes

-- the rules in their order; sos is the class before the sequence
abbrev pub weak : BidiClass → List BidiClass → List BidiClass
weak sos classes = w7 sos (w6 (w5 sos (w4 sos (w3 (w2 sos (w1 sos classes))))))
