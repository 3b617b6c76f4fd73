-- What entries of state tables name in formats 1 and 4 of `kerx`, on subtables of 16-bit words that were read by hand.
use Rattle.std.specs.Prelude.{◌≡◌, ℕ, pos, negsuc, List, [], ◌∷◌, ◌++◌, Some, None, true, false, refl}
use Rattle.std.specs.Int.{int_wrap}
use Rattle.shape_common.specs.Wrapping.{◌-ʷ◌}
use Rattle.shape_font.specs.Bytes.{i16_of}
use Rattle.shape_font.specs.Worked.Glyphs.{words}
use Rattle.apple_tables.specs.declared.states.Entry.{Entry}
use Rattle.apple_positioning.specs.Attachments.{action_index, action_of, apart}
use Rattle.apple_positioning.specs.Stacks.{depth_after, empties, list_of, pushes, value_at}
use Rattle.apple_positioning.specs.Worked.Points.{anchor}
use Rattle.apple_positioning.specs.declared.attachments.Action.TheVariants.{ControlPoints, AnchorPoints, Coordinates, Attached}

-- a subtable of a format with tuples of so many values; after the header of a state table stand two words, and what begins at 32
abbrev pub subtable : ℕ → ℕ → ℕ → ℕ → List ℕ → List ℕ
subtable format tuples first second rest =
    words (0 ∷ 40 ∷ 0 ∷ format ∷ 0 ∷ tuples ∷ 0 ∷ 4 ∷ 0 ∷ 0 ∷ 0 ∷ 0 ∷ 0 ∷ 0 ∷ first ∷ second ∷ []) ++ words rest

-- format 4, whose actions begin at 32, 20 bytes after the start of the state table
abbrev pub attaching : ℕ → List ℕ → List ℕ
attaching flags actions = subtable 4 0 flags 20 actions

pub record WorkedAttachments : Type 0 where
  pub named : action_index (words (5 ∷ 0xFFFF ∷ [])) (record { at = 0; next = 0; flags = 0 }) ≡ Some 5
  pub not_named : action_index (words (5 ∷ 0xFFFF ∷ [])) (record { at = 2; next = 0; flags = 0 }) ≡ None
  pub of_outlines : action_of (attaching 0 (1 ∷ 2 ∷ 3 ∷ 4 ∷ [])) 1 ≡ Some (ControlPoints (record { marked = 3; current = 4 }))
  pub of_anchors : action_of (attaching 0x4000 (1 ∷ 2 ∷ 3 ∷ 4 ∷ [])) 0 ≡ Some (AnchorPoints (record { marked = 1; current = 2 }))
  pub of_coordinates : action_of (attaching 0x8000 (1 ∷ 0xFFFF ∷ 3 ∷ 4 ∷ [])) 0
      ≡ Some (Coordinates (record { marked = anchor (pos 1) (negsuc 0); current = anchor (pos 3) (pos 4) }))
  pub second_coordinates : action_of (attaching 0x8000 (1 ∷ 2 ∷ 3 ∷ 4 ∷ 5 ∷ 6 ∷ 7 ∷ 8 ∷ [])) 1
      ≡ Some (Coordinates (record { marked = anchor (pos 5) (pos 6); current = anchor (pos 7) (pos 8) }))
  pub of_the_other_kind : action_of (attaching 0xC000 []) 9 ≡ Some Attached
  pub past_the_end : action_of (attaching 0 (1 ∷ 2 ∷ 3 ∷ [])) 1 ≡ None
  pub coordinates_past_the_end : action_of (attaching 0x8000 (1 ∷ 2 ∷ 3 ∷ [])) 0 ≡ None
  -- unused bits of the flags, and one more of the place
  pub other_bits : action_of (attaching 0x3F00 (1 ∷ 2 ∷ [])) 0 ≡ Some (ControlPoints (record { marked = 1; current = 2 }))
  pub place_of_24_bits : action_of (attaching 1 (1 ∷ 2 ∷ [])) 0 ≡ None
  pub moved : apart (anchor (pos 100) (negsuc 0)) (anchor (pos 30) (pos 5)) ≡ anchor (pos 70) (negsuc 5)

-- an entry with these flags
abbrev pub entry : ℕ → Entry
entry flags = record { at = 0; next = 0; flags = flags }

-- format 1, whose values begin at 32
abbrev pub stacking : ℕ → List ℕ → List ℕ
stacking tuples values = subtable 1 tuples 0 20 values

pub record WorkedStacks : Type 0 where
  pub pushed : depth_after false true 0 ≡ 1
  pub eighth : depth_after false true 7 ≡ 8
  pub ninth : depth_after false true 8 ≡ 0
  pub emptied : depth_after true false 5 ≡ 0
  pub emptied_and_pushed : depth_after true true 8 ≡ 1
  pub kept : depth_after false false 5 ≡ 5
  pub push_flag : pushes (entry 0x8000) ≡ true
  pub no_push_flag : pushes (entry 0x7FFF) ≡ false
  pub empty_flag : empties (entry 0x2000) ≡ true
  pub no_empty_flag : empties (entry 0xDFFF) ≡ false
  pub two : list_of (stacking 0 (10 ∷ 21 ∷ [])) 0 2 ≡ Some 32
  pub three : list_of (stacking 0 (10 ∷ 21 ∷ [])) 0 3 ≡ None
  pub second : list_of (stacking 0 (10 ∷ 21 ∷ [])) 2 1 ≡ Some 34
  pub odd_bytes : list_of (stacking 0 (10 ∷ 21 ∷ [])) 3 1 ≡ Some 34
  pub second_of_two : list_of (stacking 0 (10 ∷ 21 ∷ [])) 2 2 ≡ None
  pub two_tuples : list_of (stacking 2 (10 ∷ 0 ∷ 21 ∷ 0 ∷ [])) 0 2 ≡ Some 32
  pub three_tuples : list_of (stacking 2 (10 ∷ 0 ∷ 21 ∷ 0 ∷ [])) 0 3 ≡ None
  pub even : value_at (stacking 0 (10 ∷ 21 ∷ [])) 32 ≡ record { by = pos 10; is_last = false }
  pub odd : value_at (stacking 0 (10 ∷ 21 ∷ [])) 34 ≡ record { by = pos 20; is_last = true }
  pub odd_below_0 : value_at (words (0xFFFF ∷ [])) 0 ≡ record { by = negsuc 1; is_last = true }
  pub least : value_at (words (0x8000 ∷ [])) 0 ≡ record { by = negsuc 32767; is_last = false }
  pub least_and_last : value_at (words (0x8001 ∷ [])) 0 ≡ record { by = negsuc 32767; is_last = true }

pub worked_attachments : WorkedAttachments
unfolding i16_of ◌-ʷ◌ int_wrap
worked_attachments = record {
  named = refl;
  not_named = refl;
  of_outlines = refl;
  of_anchors = refl;
  of_coordinates = refl;
  second_coordinates = refl;
  of_the_other_kind = refl;
  past_the_end = refl;
  coordinates_past_the_end = refl;
  other_bits = refl;
  place_of_24_bits = refl;
  moved = refl;
}

pub worked_stacks : WorkedStacks
unfolding i16_of
worked_stacks = record {
  pushed = refl;
  eighth = refl;
  ninth = refl;
  emptied = refl;
  emptied_and_pushed = refl;
  kept = refl;
  push_flag = refl;
  no_push_flag = refl;
  empty_flag = refl;
  no_empty_flag = refl;
  two = refl;
  three = refl;
  second = refl;
  odd_bytes = refl;
  second_of_two = refl;
  two_tuples = refl;
  three_tuples = refl;
  even = refl;
  odd = refl;
  odd_below_0 = refl;
  least = refl;
  least_and_last = refl;
}
