-- The rules, computed on small cases whose results were worked out by hand, most from the standard's own examples.
pub mod Sequences
use Rattle.std.specs.Prelude.{◌≡◌, ℕ, Bool, true, false, None, Some, [], ◌∷◌, map, refl}
use Rattle.ucd_bidi.specs.declared.BidiClass.{BidiClass}
use Rattle.ucd_bidi.specs.declared.BidiClass.TheVariants.{ArabicLetter, ArabicNumber, BoundaryNeutral, CommonSeparator, EuropeanNumber}
use Rattle.ucd_bidi.specs.declared.BidiClass.TheVariants.{EuropeanSeparator, EuropeanTerminator, FirstStrongIsolate, LeftToRight}
use Rattle.ucd_bidi.specs.declared.BidiClass.TheVariants.{LeftToRightEmbedding, LeftToRightIsolate, LeftToRightOverride, NonspacingMark, OtherNeutral}
use Rattle.ucd_bidi.specs.declared.BidiClass.TheVariants.{ParagraphSeparator, PopDirectionalFormat, PopDirectionalIsolate, RightToLeft}
use Rattle.ucd_bidi.specs.declared.BidiClass.TheVariants.{RightToLeftEmbedding, RightToLeftIsolate, RightToLeftOverride, SegmentSeparator, WhiteSpace}
use Rattle.bidi.specs.Brackets.{is_paired}
use Rattle.bidi.specs.Classes.{is_number}
use Rattle.bidi.specs.Explicit.{Stack, closed, embedded, explicit, first_is_right, has_room, is_plain, isolated, next_level, stack_of, terminated}
use Rattle.bidi.specs.Levels.{paragraph_level}
use Rattle.bidi.specs.Lines.{line_levels, visual_order, visual_places}
use Rattle.bidi.specs.Neutral.{implicit_level, neutral}
use Rattle.bidi.specs.Weak.{w1, w2, w3, w4, w5, w6, w7}
use Rattle.bidi.specs.declared.explicit.Placed.{Placed}
use Rattle.bidi.specs.declared.levels.Direction.TheVariants.{LeftToRight as Left, RightToLeft as Right}

abbrev level_of : Placed → ℕ
level_of placed = placed.level

abbrev class_of : Placed → BidiClass
class_of placed = placed.class

-- a stack with no room
abbrev full : Bool → Stack
full isolate = record (stack_of 0) { top = record { level = 125; forced = OtherNeutral; isolate = isolate } }

pub record WorkedClasses : Type 0 where
  pub numbers : map is_number (EuropeanNumber ∷ ArabicNumber ∷ []) ≡ (true ∷ true ∷ [])
  -- what stands beside numbers is none, nor is a letter
  pub no_numbers : map is_number (EuropeanSeparator ∷ EuropeanTerminator ∷ CommonSeparator ∷ NonspacingMark ∷ LeftToRight ∷ ArabicLetter ∷ [])
      ≡ (false ∷ false ∷ false ∷ false ∷ false ∷ false ∷ [])
  -- the characters of X2 to X5, of X5a to X5c, of X6a and of X7
  pub embeddings : map is_plain (RightToLeftEmbedding ∷ LeftToRightEmbedding ∷ RightToLeftOverride ∷ LeftToRightOverride ∷ [])
      ≡ (false ∷ false ∷ false ∷ false ∷ [])
  pub isolates : map is_plain (RightToLeftIsolate ∷ LeftToRightIsolate ∷ FirstStrongIsolate ∷ []) ≡ (false ∷ false ∷ false ∷ [])
  pub ends : map is_plain (PopDirectionalIsolate ∷ PopDirectionalFormat ∷ []) ≡ (false ∷ false ∷ [])
  pub plain_letters : map is_plain (LeftToRight ∷ RightToLeft ∷ ArabicLetter ∷ NonspacingMark ∷ []) ≡ (true ∷ true ∷ true ∷ true ∷ [])
  pub plain_numbers : map is_plain (EuropeanNumber ∷ EuropeanSeparator ∷ EuropeanTerminator ∷ ArabicNumber ∷ CommonSeparator ∷ [])
      ≡ (true ∷ true ∷ true ∷ true ∷ true ∷ [])
  pub plain_others : map is_plain (ParagraphSeparator ∷ SegmentSeparator ∷ WhiteSpace ∷ OtherNeutral ∷ BoundaryNeutral ∷ [])
      ≡ (true ∷ true ∷ true ∷ true ∷ true ∷ [])
  -- no bracket is closed at place 0, where one can only open
  pub pairs : map is_paired (0 ∷ 1 ∷ 7 ∷ []) ≡ (false ∷ true ∷ true ∷ [])

pub worked_classes : WorkedClasses
worked_classes = record {
  numbers = refl;
  no_numbers = refl;
  embeddings = refl;
  isolates = refl;
  ends = refl;
  plain_letters = refl;
  plain_numbers = refl;
  plain_others = refl;
  pairs = refl;
}

pub record WorkedWeak : Type 0 where
  pub w1_after_a_letter : w1 LeftToRight (ArabicLetter ∷ NonspacingMark ∷ NonspacingMark ∷ []) ≡ (ArabicLetter ∷ ArabicLetter ∷ ArabicLetter ∷ [])
  pub w1_at_the_start : w1 RightToLeft (NonspacingMark ∷ LeftToRight ∷ NonspacingMark ∷ []) ≡ (RightToLeft ∷ LeftToRight ∷ LeftToRight ∷ [])
  pub w1_after_isolates : w1 LeftToRight (LeftToRightIsolate ∷ NonspacingMark ∷ RightToLeftIsolate
      ∷ NonspacingMark ∷ FirstStrongIsolate ∷ NonspacingMark ∷ PopDirectionalIsolate ∷ NonspacingMark
      ∷ NonspacingMark ∷ []) ≡ (LeftToRightIsolate ∷ OtherNeutral ∷ RightToLeftIsolate ∷ OtherNeutral
      ∷ FirstStrongIsolate ∷ OtherNeutral ∷ PopDirectionalIsolate ∷ OtherNeutral ∷ OtherNeutral ∷ [])
  pub w1_after_a_number : w1 LeftToRight (EuropeanNumber ∷ NonspacingMark ∷ []) ≡ (EuropeanNumber ∷ EuropeanNumber ∷ [])
  pub w2_after_arabic : w2 LeftToRight (ArabicLetter ∷ EuropeanNumber ∷ []) ≡ (ArabicLetter ∷ ArabicNumber ∷ [])
  pub w2_across_neutrals : w2 LeftToRight (ArabicLetter ∷ OtherNeutral ∷ EuropeanNumber ∷ EuropeanNumber ∷ [])
      ≡ (ArabicLetter ∷ OtherNeutral ∷ ArabicNumber ∷ ArabicNumber ∷ [])
  pub w2_not_at_the_start : w2 RightToLeft (OtherNeutral ∷ EuropeanNumber ∷ []) ≡ (OtherNeutral ∷ EuropeanNumber ∷ [])
  pub w2_not_after_another : w2 LeftToRight (ArabicLetter ∷ LeftToRight ∷ EuropeanNumber ∷ ArabicLetter
      ∷ RightToLeft ∷ EuropeanNumber ∷ []) ≡ (ArabicLetter ∷ LeftToRight ∷ EuropeanNumber ∷ ArabicLetter
      ∷ RightToLeft ∷ EuropeanNumber ∷ [])
  pub w3_each : w3 (ArabicLetter ∷ LeftToRight ∷ EuropeanNumber ∷ []) ≡ (RightToLeft ∷ LeftToRight ∷ EuropeanNumber ∷ [])
  pub w4_between : w4 LeftToRight (EuropeanNumber ∷ EuropeanSeparator ∷ EuropeanNumber ∷ CommonSeparator
      ∷ EuropeanNumber ∷ ArabicNumber ∷ CommonSeparator ∷ ArabicNumber ∷ [])
      ≡ (EuropeanNumber ∷ EuropeanNumber ∷ EuropeanNumber ∷ EuropeanNumber ∷ EuropeanNumber ∷ ArabicNumber
      ∷ ArabicNumber ∷ ArabicNumber ∷ [])
  pub w4_not_arabic_with_es : w4 LeftToRight (ArabicNumber ∷ EuropeanSeparator ∷ ArabicNumber ∷ []) ≡ (ArabicNumber ∷ EuropeanSeparator ∷ ArabicNumber ∷ [])
  pub w4_not_of_two_kinds : w4 LeftToRight (EuropeanNumber ∷ CommonSeparator ∷ ArabicNumber ∷ CommonSeparator
      ∷ EuropeanNumber ∷ []) ≡ (EuropeanNumber ∷ CommonSeparator ∷ ArabicNumber ∷ CommonSeparator ∷ EuropeanNumber ∷ [])
  pub w4_not_two : w4 LeftToRight (EuropeanNumber ∷ CommonSeparator ∷ CommonSeparator ∷ EuropeanNumber
      ∷ EuropeanSeparator ∷ EuropeanSeparator ∷ EuropeanNumber ∷ [])
      ≡ (EuropeanNumber ∷ CommonSeparator ∷ CommonSeparator ∷ EuropeanNumber ∷ EuropeanSeparator
      ∷ EuropeanSeparator ∷ EuropeanNumber ∷ [])
  pub w4_not_at_the_ends : w4 LeftToRight (EuropeanSeparator ∷ EuropeanNumber ∷ CommonSeparator ∷ [])
      ≡ (EuropeanSeparator ∷ EuropeanNumber ∷ CommonSeparator ∷ [])
  pub w5_before : w5 LeftToRight (EuropeanTerminator ∷ EuropeanTerminator ∷ EuropeanNumber ∷ []) ≡ (EuropeanNumber ∷ EuropeanNumber ∷ EuropeanNumber ∷ [])
  pub w5_after : w5 LeftToRight (EuropeanNumber ∷ EuropeanTerminator ∷ EuropeanTerminator ∷ []) ≡ (EuropeanNumber ∷ EuropeanNumber ∷ EuropeanNumber ∷ [])
  pub w5_between : w5 LeftToRight (ArabicNumber ∷ EuropeanTerminator ∷ EuropeanNumber ∷ []) ≡ (ArabicNumber ∷ EuropeanNumber ∷ EuropeanNumber ∷ [])
  pub w5_not_beside_another : w5 LeftToRight (ArabicNumber ∷ EuropeanTerminator ∷ EuropeanTerminator
      ∷ LeftToRight ∷ EuropeanTerminator ∷ []) ≡ (ArabicNumber ∷ EuropeanTerminator ∷ EuropeanTerminator
      ∷ LeftToRight ∷ EuropeanTerminator ∷ [])
  pub w6_left : w6 (ArabicNumber ∷ EuropeanTerminator ∷ EuropeanSeparator ∷ CommonSeparator ∷ EuropeanNumber
      ∷ []) ≡ (ArabicNumber ∷ OtherNeutral ∷ OtherNeutral ∷ OtherNeutral ∷ EuropeanNumber ∷ [])
  pub w7_after_left : w7 RightToLeft (LeftToRight ∷ OtherNeutral ∷ EuropeanNumber ∷ EuropeanNumber
      ∷ RightToLeft ∷ EuropeanNumber ∷ []) ≡ (LeftToRight ∷ OtherNeutral ∷ LeftToRight ∷ LeftToRight
      ∷ RightToLeft ∷ EuropeanNumber ∷ [])
  pub w7_at_the_start : w7 LeftToRight (EuropeanNumber ∷ []) ≡ (LeftToRight ∷ [])

pub worked_weak : WorkedWeak
worked_weak = record {
  w1_after_a_letter = refl;
  w1_at_the_start = refl;
  w1_after_isolates = refl;
  w1_after_a_number = refl;
  w2_after_arabic = refl;
  w2_across_neutrals = refl;
  w2_not_at_the_start = refl;
  w2_not_after_another = refl;
  w3_each = refl;
  w4_between = refl;
  w4_not_arabic_with_es = refl;
  w4_not_of_two_kinds = refl;
  w4_not_two = refl;
  w4_not_at_the_ends = refl;
  w5_before = refl;
  w5_after = refl;
  w5_between = refl;
  w5_not_beside_another = refl;
  w6_left = refl;
  w7_after_left = refl;
  w7_at_the_start = refl;
}

pub record WorkedNeutral : Type 0 where
  pub n1_left : neutral RightToLeft RightToLeft RightToLeft (LeftToRight ∷ OtherNeutral ∷ WhiteSpace
      ∷ LeftToRight ∷ []) ≡ (LeftToRight ∷ LeftToRight ∷ LeftToRight ∷ LeftToRight ∷ [])
  pub n1_right : neutral LeftToRight LeftToRight LeftToRight (RightToLeft ∷ OtherNeutral ∷ RightToLeft
      ∷ OtherNeutral ∷ ArabicNumber ∷ OtherNeutral ∷ EuropeanNumber ∷ WhiteSpace ∷ RightToLeft ∷ [])
      ≡ (RightToLeft ∷ RightToLeft ∷ RightToLeft ∷ RightToLeft ∷ ArabicNumber ∷ RightToLeft ∷ EuropeanNumber
      ∷ RightToLeft ∷ RightToLeft ∷ [])
  pub n1_edges : neutral RightToLeft LeftToRight LeftToRight (OtherNeutral ∷ LeftToRight ∷ OtherNeutral ∷ []) ≡ (LeftToRight ∷ LeftToRight ∷ LeftToRight ∷ [])
  pub n2_between_two : neutral RightToLeft LeftToRight LeftToRight (LeftToRight ∷ OtherNeutral ∷ RightToLeft
      ∷ OtherNeutral ∷ LeftToRight ∷ []) ≡ (LeftToRight ∷ RightToLeft ∷ RightToLeft ∷ RightToLeft ∷ LeftToRight ∷ [])
  pub n2_left : neutral LeftToRight RightToLeft RightToLeft (LeftToRight ∷ OtherNeutral ∷ RightToLeft ∷ []) ≡ (LeftToRight ∷ LeftToRight ∷ RightToLeft ∷ [])
  pub each_neutral : neutral RightToLeft LeftToRight LeftToRight (ParagraphSeparator ∷ SegmentSeparator
      ∷ WhiteSpace ∷ OtherNeutral ∷ LeftToRightIsolate ∷ RightToLeftIsolate ∷ FirstStrongIsolate
      ∷ PopDirectionalIsolate ∷ []) ≡ (LeftToRight ∷ LeftToRight ∷ LeftToRight ∷ LeftToRight ∷ LeftToRight
      ∷ LeftToRight ∷ LeftToRight ∷ LeftToRight ∷ [])
  pub i1 : map (implicit_level 2) (LeftToRight ∷ RightToLeft ∷ ArabicNumber ∷ EuropeanNumber ∷ []) ≡ (2 ∷ 3 ∷ 4 ∷ 4 ∷ [])
  pub i2 : map (implicit_level 1) (LeftToRight ∷ RightToLeft ∷ ArabicNumber ∷ EuropeanNumber ∷ []) ≡ (2 ∷ 1 ∷ 2 ∷ 2 ∷ [])

pub worked_neutral : WorkedNeutral
worked_neutral = record {
  n1_left = refl;
  n1_right = refl;
  n1_edges = refl;
  n2_between_two = refl;
  n2_left = refl;
  each_neutral = refl;
  i1 = refl;
  i2 = refl;
}

pub record WorkedExplicit : Type 0 where
  pub p2_left : first_is_right true 0 (OtherNeutral ∷ LeftToRight ∷ RightToLeft ∷ []) ≡ false
  pub p2_right : first_is_right true 0 (EuropeanNumber ∷ RightToLeft ∷ LeftToRight ∷ []) ≡ true
  pub p2_arabic : first_is_right true 0 (ArabicLetter ∷ []) ≡ true
  pub p2_none : first_is_right true 0 (EuropeanNumber ∷ WhiteSpace ∷ []) ≡ false
  pub p2_past_an_isolate : first_is_right true 0 (LeftToRightIsolate ∷ LeftToRight ∷ PopDirectionalIsolate ∷ RightToLeft ∷ []) ≡ true
  pub p2_past_two : first_is_right true 0 (FirstStrongIsolate ∷ LeftToRight ∷ RightToLeftIsolate ∷ LeftToRight
      ∷ PopDirectionalIsolate ∷ LeftToRight ∷ PopDirectionalIsolate ∷ ArabicLetter ∷ []) ≡ true
  pub p2_isolate_with_no_end : first_is_right true 0 (LeftToRightIsolate ∷ LeftToRight ∷ RightToLeft ∷ []) ≡ false
  pub p2_past_a_lone_pdi : first_is_right true 0 (PopDirectionalIsolate ∷ RightToLeft ∷ []) ≡ true
  pub x5c_ends_with_its_pdi : first_is_right false 0 (OtherNeutral ∷ PopDirectionalIsolate ∷ RightToLeft ∷ []) ≡ false
  pub x5c_inside : first_is_right false 0 (OtherNeutral ∷ RightToLeft ∷ PopDirectionalIsolate ∷ []) ≡ true
  pub levels_even : map (next_level true) (0 ∷ 1 ∷ 2 ∷ 124 ∷ []) ≡ (1 ∷ 3 ∷ 3 ∷ 125 ∷ [])
  pub levels_odd : map (next_level false) (0 ∷ 1 ∷ 2 ∷ 123 ∷ []) ≡ (2 ∷ 2 ∷ 4 ∷ 124 ∷ [])
  pub embeddings_levels : map level_of (explicit 0 (LeftToRight ∷ RightToLeftEmbedding ∷ LeftToRight
      ∷ LeftToRightEmbedding ∷ RightToLeft ∷ PopDirectionalFormat ∷ LeftToRight ∷ PopDirectionalFormat
      ∷ LeftToRight ∷ PopDirectionalFormat ∷ LeftToRight ∷ [])) ≡ (0 ∷ 0 ∷ 1 ∷ 1 ∷ 2 ∷ 2 ∷ 1 ∷ 1 ∷ 0 ∷ 0 ∷ 0 ∷ [])
  pub embeddings_classes : map class_of (explicit 0 (LeftToRight ∷ RightToLeftEmbedding ∷ LeftToRight
      ∷ LeftToRightEmbedding ∷ RightToLeft ∷ PopDirectionalFormat ∷ LeftToRight ∷ PopDirectionalFormat
      ∷ LeftToRight ∷ PopDirectionalFormat ∷ LeftToRight ∷ []))
      ≡ (LeftToRight ∷ RightToLeftEmbedding ∷ LeftToRight ∷ LeftToRightEmbedding ∷ RightToLeft
      ∷ PopDirectionalFormat ∷ LeftToRight ∷ PopDirectionalFormat ∷ LeftToRight ∷ PopDirectionalFormat
      ∷ LeftToRight ∷ [])
  pub overrides_levels : map level_of (explicit 0 (RightToLeftOverride ∷ LeftToRight ∷ EuropeanNumber
      ∷ PopDirectionalFormat ∷ LeftToRightOverride ∷ RightToLeft ∷ PopDirectionalFormat ∷ RightToLeft ∷ []))
      ≡ (0 ∷ 1 ∷ 1 ∷ 1 ∷ 0 ∷ 2 ∷ 2 ∷ 0 ∷ [])
  pub overrides_classes : map class_of (explicit 0 (RightToLeftOverride ∷ LeftToRight ∷ EuropeanNumber
      ∷ PopDirectionalFormat ∷ LeftToRightOverride ∷ RightToLeft ∷ PopDirectionalFormat ∷ RightToLeft ∷ []))
      ≡ (RightToLeftOverride ∷ RightToLeft ∷ RightToLeft ∷ RightToLeft ∷ LeftToRightOverride ∷ LeftToRight
      ∷ LeftToRight ∷ RightToLeft ∷ [])
  pub isolates_levels : map level_of (explicit 0 (RightToLeftIsolate ∷ LeftToRight ∷ PopDirectionalIsolate
      ∷ LeftToRightIsolate ∷ RightToLeft ∷ PopDirectionalIsolate ∷ FirstStrongIsolate ∷ RightToLeft
      ∷ PopDirectionalIsolate ∷ FirstStrongIsolate ∷ LeftToRight ∷ PopDirectionalIsolate
      ∷ PopDirectionalIsolate ∷ [])) ≡ (0 ∷ 1 ∷ 0 ∷ 0 ∷ 2 ∷ 0 ∷ 0 ∷ 1 ∷ 0 ∷ 0 ∷ 2 ∷ 0 ∷ 0 ∷ [])
  pub isolates_classes : map class_of (explicit 0 (RightToLeftIsolate ∷ LeftToRight ∷ PopDirectionalIsolate
      ∷ LeftToRightIsolate ∷ RightToLeft ∷ PopDirectionalIsolate ∷ FirstStrongIsolate ∷ RightToLeft
      ∷ PopDirectionalIsolate ∷ FirstStrongIsolate ∷ LeftToRight ∷ PopDirectionalIsolate
      ∷ PopDirectionalIsolate ∷ [])) ≡ (RightToLeftIsolate ∷ LeftToRight ∷ PopDirectionalIsolate
      ∷ LeftToRightIsolate ∷ RightToLeft ∷ PopDirectionalIsolate ∷ FirstStrongIsolate ∷ RightToLeft
      ∷ PopDirectionalIsolate ∷ FirstStrongIsolate ∷ LeftToRight ∷ PopDirectionalIsolate ∷ PopDirectionalIsolate ∷ [])
  pub isolate_in_an_override_levels : map level_of (explicit 0 (RightToLeftOverride ∷ LeftToRightIsolate
      ∷ LeftToRight ∷ PopDirectionalIsolate ∷ LeftToRight ∷ [])) ≡ (0 ∷ 1 ∷ 2 ∷ 1 ∷ 1 ∷ [])
  pub isolate_in_an_override_classes : map class_of (explicit 0 (RightToLeftOverride ∷ LeftToRightIsolate
      ∷ LeftToRight ∷ PopDirectionalIsolate ∷ LeftToRight ∷ []))
      ≡ (RightToLeftOverride ∷ RightToLeft ∷ LeftToRight ∷ RightToLeft ∷ RightToLeft ∷ [])
  pub embedding_ends_with_its_isolate_levels : map level_of (explicit 0 (RightToLeftIsolate
      ∷ LeftToRightEmbedding ∷ LeftToRight ∷ PopDirectionalIsolate ∷ LeftToRight ∷ PopDirectionalFormat
      ∷ LeftToRight ∷ [])) ≡ (0 ∷ 1 ∷ 2 ∷ 0 ∷ 0 ∷ 0 ∷ 0 ∷ [])
  pub embedding_ends_with_its_isolate_classes : map class_of (explicit 0 (RightToLeftIsolate
      ∷ LeftToRightEmbedding ∷ LeftToRight ∷ PopDirectionalIsolate ∷ LeftToRight ∷ PopDirectionalFormat
      ∷ LeftToRight ∷ [])) ≡ (RightToLeftIsolate ∷ LeftToRightEmbedding ∷ LeftToRight ∷ PopDirectionalIsolate
      ∷ LeftToRight ∷ PopDirectionalFormat ∷ LeftToRight ∷ [])
  pub pdf_not_past_an_isolate_levels : map level_of (explicit 0 (RightToLeftEmbedding ∷ LeftToRightIsolate
      ∷ PopDirectionalFormat ∷ LeftToRight ∷ PopDirectionalIsolate ∷ LeftToRight ∷ [])) ≡ (0 ∷ 1 ∷ 2 ∷ 2 ∷ 1 ∷ 1 ∷ [])
  pub pdf_not_past_an_isolate_classes : map class_of (explicit 0 (RightToLeftEmbedding ∷ LeftToRightIsolate
      ∷ PopDirectionalFormat ∷ LeftToRight ∷ PopDirectionalIsolate ∷ LeftToRight ∷ []))
      ≡ (RightToLeftEmbedding ∷ LeftToRightIsolate ∷ PopDirectionalFormat ∷ LeftToRight
      ∷ PopDirectionalIsolate ∷ LeftToRight ∷ [])
  pub separator_levels : map level_of (explicit 1 (LeftToRightEmbedding ∷ LeftToRightIsolate ∷ LeftToRight
      ∷ ParagraphSeparator ∷ LeftToRight ∷ [])) ≡ (1 ∷ 2 ∷ 4 ∷ 1 ∷ 1 ∷ [])
  pub separator_classes : map class_of (explicit 1 (LeftToRightEmbedding ∷ LeftToRightIsolate ∷ LeftToRight
      ∷ ParagraphSeparator ∷ LeftToRight ∷ [])) ≡ (LeftToRightEmbedding ∷ LeftToRightIsolate ∷ LeftToRight
      ∷ ParagraphSeparator ∷ LeftToRight ∷ [])
  pub overflow_embedding : (embedded true OtherNeutral (full false)).overflow_embeddings ≡ 1
  pub no_overflow_embedding_in_an_isolate : (embedded true OtherNeutral (isolated true (full false))).overflow_embeddings ≡ 0
  pub overflow_isolate : (isolated true (full false)).overflow_isolates ≡ 1
  pub overflow_isolate_ends : (closed (isolated true (full false))).overflow_isolates ≡ 0
  pub overflow_embedding_ends : terminated (embedded true OtherNeutral (full false)) ≡ full false
  pub isolate_ends : (closed (isolated true (stack_of 0))).isolates ≡ 0
  pub pdf_leaves_an_isolate : terminated (full true) ≡ full true
  pub pdf_leaves_the_last : terminated (stack_of 1) ≡ stack_of 1
  pub room_up_to_125 : (has_room true (stack_of 124) ∷ has_room false (stack_of 123)
      ∷ has_room false (stack_of 124) ∷ has_room true (stack_of 125) ∷ []) ≡ (true ∷ true ∷ false ∷ false ∷ [])
  pub no_isolate_at_the_start : (stack_of 0).top.isolate ≡ false
  pub one_isolate_ends : (closed (isolated true (isolated true (stack_of 0)))).isolates ≡ 1
  pub one_overflow_embedding_ends : (terminated (embedded true OtherNeutral (embedded true OtherNeutral (full false)))).overflow_embeddings ≡ 1
  pub x5c_not_past_its_pdi : map level_of (explicit 0 (FirstStrongIsolate ∷ OtherNeutral ∷ PopDirectionalIsolate ∷ RightToLeft ∷ [])) ≡ (0 ∷ 2 ∷ 0 ∷ 0 ∷ [])
  pub p3_given_or_found : (paragraph_level (Some Left) (RightToLeft ∷ [])
      ∷ paragraph_level (Some Right) (LeftToRight ∷ []) ∷ paragraph_level None (RightToLeft ∷ [])
      ∷ paragraph_level None (LeftToRight ∷ []) ∷ paragraph_level None (PopDirectionalIsolate ∷ RightToLeft
      ∷ []) ∷ []) ≡ (0 ∷ 1 ∷ 1 ∷ 0 ∷ 1 ∷ [])

pub worked_explicit : WorkedExplicit
worked_explicit = record {
  p2_left = refl;
  p2_right = refl;
  p2_arabic = refl;
  p2_none = refl;
  p2_past_an_isolate = refl;
  p2_past_two = refl;
  p2_isolate_with_no_end = refl;
  p2_past_a_lone_pdi = refl;
  x5c_ends_with_its_pdi = refl;
  x5c_inside = refl;
  levels_even = refl;
  levels_odd = refl;
  embeddings_levels = refl;
  embeddings_classes = refl;
  overrides_levels = refl;
  overrides_classes = refl;
  isolates_levels = refl;
  isolates_classes = refl;
  isolate_in_an_override_levels = refl;
  isolate_in_an_override_classes = refl;
  embedding_ends_with_its_isolate_levels = refl;
  embedding_ends_with_its_isolate_classes = refl;
  pdf_not_past_an_isolate_levels = refl;
  pdf_not_past_an_isolate_classes = refl;
  separator_levels = refl;
  separator_classes = refl;
  overflow_embedding = refl;
  no_overflow_embedding_in_an_isolate = refl;
  overflow_isolate = refl;
  overflow_isolate_ends = refl;
  overflow_embedding_ends = refl;
  isolate_ends = refl;
  pdf_leaves_an_isolate = refl;
  pdf_leaves_the_last = refl;
  room_up_to_125 = refl;
  no_isolate_at_the_start = refl;
  one_isolate_ends = refl;
  one_overflow_embedding_ends = refl;
  x5c_not_past_its_pdi = refl;
  p3_given_or_found = refl;
}

pub record WorkedLines : Type 0 where
  pub l1_separators : line_levels 0 (RightToLeft ∷ SegmentSeparator ∷ RightToLeft ∷ ParagraphSeparator ∷ []) (1 ∷ 1 ∷ 1 ∷ 1 ∷ []) ≡ (1 ∷ 0 ∷ 1 ∷ 0 ∷ [])
  pub l1_spaces : line_levels 0 (RightToLeft ∷ WhiteSpace ∷ SegmentSeparator ∷ RightToLeft ∷ WhiteSpace
      ∷ PopDirectionalIsolate ∷ BoundaryNeutral ∷ []) (1 ∷ 1 ∷ 1 ∷ 1 ∷ 1 ∷ 1 ∷ 1 ∷ [])
      ≡ (1 ∷ 0 ∷ 0 ∷ 1 ∷ 0 ∷ 0 ∷ 0 ∷ [])
  pub l1_between : line_levels 0 (RightToLeft ∷ WhiteSpace ∷ RightToLeft ∷ OtherNeutral ∷ []) (1 ∷ 1 ∷ 1 ∷ 1 ∷ []) ≡ (1 ∷ 1 ∷ 1 ∷ 1 ∷ [])
  pub l2_left : visual_order (0 ∷ 0 ∷ 0 ∷ []) ≡ (0 ∷ 1 ∷ 2 ∷ [])
  pub l2_right : visual_order (1 ∷ 1 ∷ 1 ∷ []) ≡ (2 ∷ 1 ∷ 0 ∷ [])
  pub l2_nested : visual_order (0 ∷ 0 ∷ 1 ∷ 1 ∷ 2 ∷ 2 ∷ 1 ∷ []) ≡ (0 ∷ 1 ∷ 6 ∷ 4 ∷ 5 ∷ 3 ∷ 2 ∷ [])
  pub l2_runs : visual_order (2 ∷ 2 ∷ 1 ∷ 3 ∷ 3 ∷ 1 ∷ 0 ∷ []) ≡ (5 ∷ 4 ∷ 3 ∷ 2 ∷ 0 ∷ 1 ∷ 6 ∷ [])
  pub l2_even_alone : visual_order (2 ∷ 4 ∷ 2 ∷ []) ≡ (0 ∷ 1 ∷ 2 ∷ [])
  pub places_of_an_order : visual_places (2 ∷ 0 ∷ 1 ∷ []) ≡ (1 ∷ 2 ∷ 0 ∷ [])

pub worked_lines : WorkedLines
worked_lines = record {
  l1_separators = refl;
  l1_spaces = refl;
  l1_between = refl;
  l2_left = refl;
  l2_right = refl;
  l2_nested = refl;
  l2_runs = refl;
  l2_even_alone = refl;
  places_of_an_order = refl;
}
