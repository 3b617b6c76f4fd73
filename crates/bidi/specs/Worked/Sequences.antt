-- The rules X9, X10, N0 and P1, computed on small cases whose results were worked out by hand, the sequences from the examples of BD13.
use Rattle.std.specs.Prelude.{◌≡◌, ℕ, zero, suc, true, false, None, Some, List, [], ◌∷◌, map, refl}
use Rattle.ucd_bidi.specs.declared.BidiClass.{BidiClass}
use Rattle.ucd_bidi.specs.declared.BidiClass.TheVariants.{ArabicLetter, ArabicNumber, BoundaryNeutral, EuropeanNumber, FirstStrongIsolate}
use Rattle.ucd_bidi.specs.declared.BidiClass.TheVariants.{LeftToRight, LeftToRightEmbedding, LeftToRightIsolate, LeftToRightOverride, NonspacingMark}
use Rattle.ucd_bidi.specs.declared.BidiClass.TheVariants.{OtherNeutral, PopDirectionalFormat, PopDirectionalIsolate, RightToLeft}
use Rattle.ucd_bidi.specs.declared.BidiClass.TheVariants.{RightToLeftEmbedding, RightToLeftIsolate, RightToLeftOverride, WhiteSpace}
use Rattle.bidi.specs.Brackets.{Pairs, canonical, closed, closed_by, directed_then, n0_from, no_pairs, opened, opened_by, pair_direction, pairs_step, with_pair}
use Rattle.bidi.specs.Explicit.{explicit}
use Rattle.bidi.specs.Members.{members}
use Rattle.bidi.specs.Sequences.{eos_of, last_of, sequences, sos_of, with_levels}
use Rattle.bidi.specs.Text.{begins_with, filled, last_part, levels_in}
use Rattle.bidi.specs.declared.members.Member.{Member}

-- U+0000 for each class: which characters they are matters to brackets alone
abbrev no_text : List BidiClass → List ℕ
no_text classes = map (λ class. 0) classes

abbrev members_of : ℕ → List BidiClass → List Member
members_of base classes = members base (no_text classes) classes (explicit base classes)

abbrev place_of : Member → ℕ
place_of member = member.place

abbrev level_of : Member → ℕ
level_of member = member.level

abbrev before_of : Member → ℕ
before_of member = member.before

abbrev after_of : Member → ℕ
after_of member = member.after

-- the places of the members of each sequence
abbrev places : ℕ → List BidiClass → List (List ℕ)
places base classes = map (λ sequence. map place_of sequence) (sequences (members_of base classes))

-- a member of an isolating run sequence of level 0, or of another one
abbrev of_class : BidiClass → Member
of_class class = record { place = 0; character = 0; original = class; class = class; level = 0; before = 0; after = 0 }

abbrev between : BidiClass → ℕ → ℕ → ℕ → Member
between class before level after = record { place = 0; character = 0; original = class; class = class; level = level; before = before; after = after }

-- text1 RLE text2 PDF RLE text3 PDF text4, a character for each text
abbrev embeddings : List BidiClass
embeddings = LeftToRight ∷ RightToLeftEmbedding ∷ LeftToRight ∷ PopDirectionalFormat ∷ RightToLeftEmbedding
    ∷ LeftToRight ∷ PopDirectionalFormat ∷ LeftToRight ∷ []

-- text1 RLI text2 PDI RLI text3 PDI text4
abbrev isolates : List BidiClass
isolates = LeftToRight ∷ RightToLeftIsolate ∷ LeftToRight ∷ PopDirectionalIsolate ∷ RightToLeftIsolate ∷ LeftToRight ∷ PopDirectionalIsolate ∷ LeftToRight ∷ []

-- text1 RLI text2 LRI text3 RLE text4 PDF text5 PDI text6 PDI text7
abbrev nested : List BidiClass
nested = LeftToRight ∷ RightToLeftIsolate ∷ LeftToRight ∷ LeftToRightIsolate ∷ LeftToRight
    ∷ RightToLeftEmbedding ∷ LeftToRight ∷ PopDirectionalFormat ∷ LeftToRight ∷ PopDirectionalIsolate
    ∷ LeftToRight ∷ PopDirectionalIsolate ∷ LeftToRight ∷ []

pub record WorkedSequences : Type 0 where
  pub x9_leaves : map place_of (members_of 0 embeddings) ≡ (0 ∷ 2 ∷ 5 ∷ 7 ∷ [])
  pub x9_not_bn_in_an_override : map place_of (members_of 0 (LeftToRightOverride ∷ BoundaryNeutral ∷ RightToLeft ∷ PopDirectionalFormat ∷ [])) ≡ (2 ∷ [])
  pub x9_levels : map level_of (members_of 0 embeddings) ≡ (0 ∷ 1 ∷ 1 ∷ 0 ∷ [])
  pub x10_before : map before_of (members_of 0 embeddings) ≡ (0 ∷ 0 ∷ 1 ∷ 1 ∷ [])
  pub x10_before_of_a_paragraph : map before_of (members_of 1 embeddings) ≡ (1 ∷ 1 ∷ 3 ∷ 3 ∷ [])
  pub x10_after : map after_of (members_of 0 embeddings) ≡ (1 ∷ 1 ∷ 0 ∷ 0 ∷ [])
  pub x10_after_in_a_paragraph : map after_of (members_of 1 (BoundaryNeutral ∷ RightToLeft ∷ BoundaryNeutral ∷ [])) ≡ (1 ∷ [])
  pub bd13_embeddings : places 0 embeddings ≡ ((0 ∷ []) ∷ (2 ∷ 5 ∷ []) ∷ (7 ∷ []) ∷ [])
  pub bd13_isolates : places 0 isolates ≡ ((2 ∷ []) ∷ (5 ∷ []) ∷ (0 ∷ 1 ∷ 3 ∷ 4 ∷ 6 ∷ 7 ∷ []) ∷ [])
  pub bd13_nested : places 0 nested ≡ ((4 ∷ []) ∷ (6 ∷ []) ∷ (8 ∷ []) ∷ (2 ∷ 3 ∷ 9 ∷ 10 ∷ []) ∷ (0 ∷ 1 ∷ 11 ∷ 12 ∷ []) ∷ [])
  pub bd13_empty_isolate : places 0 (LeftToRight ∷ LeftToRightIsolate ∷ PopDirectionalIsolate ∷ LeftToRight ∷ []) ≡ ((0 ∷ 1 ∷ 2 ∷ 3 ∷ []) ∷ [])
  pub bd13_isolate_with_no_end : places 0 (LeftToRight ∷ RightToLeftIsolate ∷ RightToLeft ∷ []) ≡ ((2 ∷ []) ∷ (0 ∷ 1 ∷ []) ∷ [])
  pub bd13_lone_pdi : places 0 (LeftToRight ∷ PopDirectionalIsolate ∷ LeftToRight ∷ []) ≡ ((0 ∷ 1 ∷ 2 ∷ []) ∷ [])
  pub bd13_pdi_after_an_embedding : places 0 (RightToLeftEmbedding ∷ LeftToRight ∷ PopDirectionalFormat
      ∷ PopDirectionalIsolate ∷ []) ≡ ((1 ∷ []) ∷ (3 ∷ []) ∷ [])
  pub bd13_with_an_embedding_open : places 0 (RightToLeftIsolate ∷ LeftToRightEmbedding ∷ LeftToRight
      ∷ PopDirectionalIsolate ∷ LeftToRight ∷ []) ≡ ((2 ∷ []) ∷ (0 ∷ 3 ∷ 4 ∷ []) ∷ [])
  pub sos_higher_before : sos_of (between LeftToRight 1 0 0) ≡ RightToLeft
  pub sos_higher_itself : sos_of (between LeftToRight 1 2 1) ≡ LeftToRight
  pub eos_higher_after : eos_of 0 (between LeftToRight 0 0 1) ≡ RightToLeft
  pub eos_higher_itself : eos_of 1 (between LeftToRight 0 2 1) ≡ LeftToRight
  pub eos_of_an_initiator : eos_of 0 (between RightToLeftIsolate 0 0 1) ≡ LeftToRight
  pub eos_of_an_initiator_at_its_paragraph : eos_of 1 (between FirstStrongIsolate 0 0 0) ≡ RightToLeft
  pub written_to_places : with_levels (record (of_class LeftToRight) { place = 2 } ∷ of_class RightToLeft
      ∷ []) (EuropeanNumber ∷ RightToLeft ∷ []) (0 ∷ 0 ∷ 0 ∷ []) ≡ (1 ∷ 0 ∷ 2 ∷ [])
  pub removed_as_before : filled 1 (BoundaryNeutral ∷ LeftToRight ∷ PopDirectionalFormat ∷ BoundaryNeutral
      ∷ RightToLeft ∷ LeftToRightEmbedding ∷ RightToLeftEmbedding ∷ RightToLeftOverride ∷ LeftToRightOverride
      ∷ []) (7 ∷ 2 ∷ 7 ∷ 7 ∷ 3 ∷ 7 ∷ 7 ∷ 7 ∷ 7 ∷ []) ≡ (1 ∷ 2 ∷ 2 ∷ 2 ∷ 3 ∷ 3 ∷ 3 ∷ 3 ∷ 3 ∷ [])
  pub last_member : place_of (last_of (of_class LeftToRight) (of_class RightToLeft ∷ record (of_class LeftToRight) { place = 7 } ∷ [])) ≡ 7
  pub numbers_in_a_paragraph : levels_in 0 (0 ∷ 0 ∷ 0 ∷ []) (RightToLeft ∷ EuropeanNumber ∷ LeftToRight ∷ []) ≡ (1 ∷ 2 ∷ 0 ∷ [])
  pub spaces_in_a_paragraph : levels_in 0 (0 ∷ 0 ∷ 0 ∷ 0 ∷ 0 ∷ []) (LeftToRight ∷ WhiteSpace ∷ ArabicLetter
      ∷ WhiteSpace ∷ EuropeanNumber ∷ []) ≡ (0 ∷ 0 ∷ 1 ∷ 1 ∷ 2 ∷ [])
  pub spaces_in_a_right_paragraph : levels_in 1 (0 ∷ 0 ∷ 0 ∷ []) (LeftToRight ∷ WhiteSpace ∷ RightToLeft ∷ []) ≡ (2 ∷ 1 ∷ 1 ∷ [])
  pub isolates_in_a_paragraph : levels_in 0 (no_text isolates) isolates ≡ (0 ∷ 0 ∷ 2 ∷ 0 ∷ 0 ∷ 2 ∷ 0 ∷ 0 ∷ [])
  pub crlf : (begins_with 0xA (0xA ∷ 0x61 ∷ []) ∷ begins_with 0xA (0x61 ∷ 0xA ∷ []) ∷ begins_with 0xA [] ∷ []) ≡ (true ∷ false ∷ false ∷ [])
  pub last_part_is_not_empty : (last_part [] ≡ []) × (last_part (0x61 ∷ 0x62 ∷ []) ≡ (0x61 ∷ 0x62 ∷ []) ∷ [])

pub worked_sequences : WorkedSequences
worked_sequences = record {
  x9_leaves = refl;
  x9_not_bn_in_an_override = refl;
  x9_levels = refl;
  x10_before = refl;
  x10_before_of_a_paragraph = refl;
  x10_after = refl;
  x10_after_in_a_paragraph = refl;
  bd13_embeddings = refl;
  bd13_isolates = refl;
  bd13_nested = refl;
  bd13_empty_isolate = refl;
  bd13_isolate_with_no_end = refl;
  bd13_lone_pdi = refl;
  bd13_pdi_after_an_embedding = refl;
  bd13_with_an_embedding_open = refl;
  sos_higher_before = refl;
  sos_higher_itself = refl;
  eos_higher_after = refl;
  eos_higher_itself = refl;
  eos_of_an_initiator = refl;
  eos_of_an_initiator_at_its_paragraph = refl;
  written_to_places = refl;
  removed_as_before = refl;
  last_member = refl;
  numbers_in_a_paragraph = refl;
  spaces_in_a_paragraph = refl;
  spaces_in_a_right_paragraph = refl;
  isolates_in_a_paragraph = refl;
  crlf = refl;
  last_part_is_not_empty = (refl, refl);
}

-- the members of a sequence of these classes before W1
abbrev sequence : List BidiClass → List Member
sequence classes = map of_class classes

-- BD16: brackets that are closed by U+0029 and U+005D
abbrev round : ℕ → Pairs → Pairs
round place pairs = opened 0x29 place pairs

abbrev square : ℕ → Pairs → Pairs
square place pairs = opened 0x5D place pairs

abbrev close_round : ℕ → Pairs → Pairs
close_round place pairs = closed 0x29 place pairs

abbrev close_square : ℕ → Pairs → Pairs
close_square place pairs = closed 0x5D place pairs

abbrev full_stack : ℕ → Pairs → Pairs
full_stack zero pairs = pairs
full_stack (suc n) pairs = full_stack n (round 0 pairs)

pub record WorkedBrackets : Type 0 where
  -- a ) b ( c, then a ( b ] c, a ( b ) c, a ( b [ c ) d ], a ( b [ c ] d ): the examples of BD16
  pub bd16_wrong_order : (round 3 (close_round 1 (no_pairs 5))).closes ≡ (0 ∷ 0 ∷ 0 ∷ 0 ∷ 0 ∷ [])
  pub bd16_other_kind : (close_square 3 (round 1 (no_pairs 5))).closes ≡ (0 ∷ 0 ∷ 0 ∷ 0 ∷ 0 ∷ [])
  pub bd16_pair : (close_round 3 (round 1 (no_pairs 5))).closes ≡ (0 ∷ 3 ∷ 0 ∷ 0 ∷ 0 ∷ [])
  pub bd16_crossed : (close_square 7 (close_round 5 (square 3 (round 1 (no_pairs 8))))).closes ≡ (0 ∷ 5 ∷ 0 ∷ 0 ∷ 0 ∷ 0 ∷ 0 ∷ 0 ∷ [])
  pub bd16_nested : (close_round 7 (close_square 5 (square 3 (round 1 (no_pairs 8))))).closes ≡ (0 ∷ 7 ∷ 0 ∷ 5 ∷ 0 ∷ 0 ∷ 0 ∷ 0 ∷ [])
  -- a ( b ) c ) d and a ( b ( c ) d
  pub bd16_closed_once : (close_round 5 (close_round 3 (round 1 (no_pairs 7)))).closes ≡ (0 ∷ 3 ∷ 0 ∷ 0 ∷ 0 ∷ 0 ∷ 0 ∷ [])
  pub bd16_innermost : (close_round 5 (round 3 (round 1 (no_pairs 7)))).closes ≡ (0 ∷ 0 ∷ 0 ∷ 5 ∷ 0 ∷ 0 ∷ 0 ∷ [])
  pub bd16_equivalent : map canonical (0x232A ∷ 0x3009 ∷ 0x29 ∷ []) ≡ (0x3009 ∷ 0x3009 ∷ 0x29 ∷ [])
  pub bd16_room_for_63 : (full_stack 63 (no_pairs 0)).full ≡ false
  pub bd16_no_room_for_64 : (full_stack 64 (no_pairs 0)).full ≡ true
  pub n0_b : pair_direction RightToLeft LeftToRight (LeftToRight ∷ OtherNeutral ∷ RightToLeft ∷ []) ≡ Some RightToLeft
  pub n0_b_number : pair_direction RightToLeft LeftToRight (EuropeanNumber ∷ []) ≡ Some RightToLeft
  pub n0_b_arabic_number : pair_direction RightToLeft LeftToRight (LeftToRight ∷ ArabicNumber ∷ []) ≡ Some RightToLeft
  pub n0_c1 : pair_direction LeftToRight RightToLeft (OtherNeutral ∷ RightToLeft ∷ []) ≡ Some RightToLeft
  pub n0_c2 : pair_direction LeftToRight LeftToRight (OtherNeutral ∷ EuropeanNumber ∷ []) ≡ Some LeftToRight
  pub n0_d : pair_direction LeftToRight RightToLeft (OtherNeutral ∷ WhiteSpace ∷ NonspacingMark ∷ []) ≡ None
  pub n0_sets_both : with_pair LeftToRight RightToLeft (sequence (RightToLeft ∷ OtherNeutral ∷ RightToLeft
      ∷ OtherNeutral ∷ [])) 1 3 (RightToLeft ∷ OtherNeutral ∷ RightToLeft ∷ OtherNeutral ∷ [])
      ≡ (RightToLeft ∷ RightToLeft ∷ RightToLeft ∷ RightToLeft ∷ [])
  pub n0_no_pair : with_pair LeftToRight RightToLeft (sequence (OtherNeutral ∷ RightToLeft
      ∷ [])) 0 0 (OtherNeutral ∷ RightToLeft ∷ []) ≡ (OtherNeutral ∷ RightToLeft ∷ [])
  pub n0_marks : with_pair RightToLeft RightToLeft (sequence (OtherNeutral ∷ NonspacingMark ∷ RightToLeft
      ∷ OtherNeutral ∷ NonspacingMark ∷ NonspacingMark ∷ OtherNeutral ∷ NonspacingMark
      ∷ [])) 0 3 (OtherNeutral ∷ OtherNeutral ∷ RightToLeft ∷ OtherNeutral ∷ OtherNeutral ∷ OtherNeutral
      ∷ OtherNeutral ∷ OtherNeutral ∷ []) ≡ (RightToLeft ∷ RightToLeft ∷ RightToLeft ∷ RightToLeft
      ∷ RightToLeft ∷ RightToLeft ∷ OtherNeutral ∷ OtherNeutral ∷ [])
  pub n0_before : map (directed_then LeftToRight) (RightToLeft ∷ LeftToRight ∷ EuropeanNumber ∷ ArabicNumber
      ∷ OtherNeutral ∷ []) ≡ (RightToLeft ∷ LeftToRight ∷ RightToLeft ∷ RightToLeft ∷ LeftToRight ∷ [])
  -- R ( L R ) ( R ): the first pair takes the direction of the embedding, and its closing bracket is what is before the second
  pub n0_in_order : n0_from LeftToRight (sequence (RightToLeft ∷ OtherNeutral ∷ LeftToRight ∷ RightToLeft
      ∷ OtherNeutral ∷ OtherNeutral ∷ RightToLeft ∷ OtherNeutral ∷ [])) 0 RightToLeft (0 ∷ 4 ∷ 0 ∷ 0 ∷ 0 ∷ 7
      ∷ 0 ∷ 0 ∷ []) (RightToLeft ∷ OtherNeutral ∷ LeftToRight ∷ RightToLeft ∷ OtherNeutral ∷ OtherNeutral
      ∷ RightToLeft ∷ OtherNeutral ∷ []) ≡ (RightToLeft ∷ LeftToRight ∷ LeftToRight ∷ RightToLeft
      ∷ LeftToRight ∷ LeftToRight ∷ RightToLeft ∷ LeftToRight ∷ [])
  pub n0_sos : n0_from RightToLeft (sequence (OtherNeutral ∷ LeftToRight ∷ OtherNeutral
      ∷ [])) 0 LeftToRight (2 ∷ 0 ∷ 0 ∷ []) (OtherNeutral ∷ LeftToRight ∷ OtherNeutral ∷ [])
      ≡ (LeftToRight ∷ LeftToRight ∷ LeftToRight ∷ [])
  pub bd14_opening : map opened_by (0x28 ∷ 0x2329 ∷ 0x3008 ∷ 0x29 ∷ 0x61 ∷ []) ≡ (Some 0x29 ∷ Some 0x3009 ∷ Some 0x3009 ∷ None ∷ None ∷ [])
  pub bd15_closing : map closed_by (0x29 ∷ 0x232A ∷ 0x3009 ∷ 0x28 ∷ 0x61 ∷ []) ≡ (Some 0x29 ∷ Some 0x3009 ∷ Some 0x3009 ∷ None ∷ None ∷ [])
  pub bd16_ends : pairs_step 0 OtherNeutral 0x28 (full_stack 64 (no_pairs 0)) ≡ full_stack 64 (no_pairs 0)
  pub n0_nothing_inside : with_pair LeftToRight RightToLeft (sequence (RightToLeft ∷ OtherNeutral ∷ WhiteSpace
      ∷ OtherNeutral ∷ RightToLeft ∷ [])) 1 3 (RightToLeft ∷ OtherNeutral ∷ WhiteSpace ∷ OtherNeutral
      ∷ RightToLeft ∷ []) ≡ (RightToLeft ∷ OtherNeutral ∷ WhiteSpace ∷ OtherNeutral ∷ RightToLeft ∷ [])
  pub n0_closed_nowhere : with_pair LeftToRight RightToLeft (sequence (OtherNeutral ∷ RightToLeft
      ∷ [])) 0 5 (OtherNeutral ∷ RightToLeft ∷ []) ≡ (OtherNeutral ∷ RightToLeft ∷ [])

pub worked_brackets : WorkedBrackets
worked_brackets = record {
  bd16_wrong_order = refl;
  bd16_other_kind = refl;
  bd16_pair = refl;
  bd16_crossed = refl;
  bd16_nested = refl;
  bd16_closed_once = refl;
  bd16_innermost = refl;
  bd16_equivalent = refl;
  bd16_room_for_63 = refl;
  bd16_no_room_for_64 = refl;
  n0_b = refl;
  n0_b_number = refl;
  n0_b_arabic_number = refl;
  n0_c1 = refl;
  n0_c2 = refl;
  n0_d = refl;
  n0_sets_both = refl;
  n0_no_pair = refl;
  n0_marks = refl;
  n0_before = refl;
  n0_in_order = refl;
  n0_sos = refl;
  bd14_opening = refl;
  bd15_closing = refl;
  bd16_ends = refl;
  n0_nothing_inside = refl;
  n0_closed_nowhere = refl;
}
