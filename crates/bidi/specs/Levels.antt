-- The level of a paragraph.
use Rattle.std.specs.Prelude.{ℕ, Bool, true, false, List, Option, None, Some, map, if◌then◌else◌}
use Rattle.ucd_bidi.specs.BidiClass.{bidi_class}
use Rattle.ucd_bidi.specs.declared.BidiClass.{BidiClass}
use Rattle.bidi.specs.Explicit.{first_is_right}
use Rattle.bidi.specs.declared.levels.Direction.{Direction}
use Rattle.bidi.specs.declared.levels.Direction.TheVariants.{LeftToRight, RightToLeft}

abbrev pub classes_of : List ℕ → List BidiClass
classes_of text = map bidi_class text

-- the direction that is given, or that of P2 and P3
abbrev pub is_right : Option Direction → List BidiClass → Bool
is_right None classes = first_is_right true 0 classes
is_right (Some LeftToRight) classes = false
is_right (Some RightToLeft) classes = true

abbrev pub paragraph_level : Option Direction → List BidiClass → ℕ
paragraph_level base classes = if is_right base classes then 1 else 0
