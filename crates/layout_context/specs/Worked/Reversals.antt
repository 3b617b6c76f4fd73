-- Reverse chaining at a place, on tables of 16-bit words that were read by hand.
use Rattle.std.specs.Prelude.{◌≡◌, ℕ, List, [], ◌∷◌, Some, None, true, false, map, is_some, refl}
use Rattle.std.specs.Int.RustNames.{bit_and}
use Rattle.shape_common.specs.Positions.{zero_position}
use Rattle.shape_font.specs.Worked.Glyphs.{words}
use Rattle.shape_items.specs.Buffer.{new_buffer}
use Rattle.shape_items.specs.Items.{Item, new_item, new_properties}
use Rattle.layout_matching.specs.declared.lookup.Lookup.{Lookup}
use Rattle.layout_context.specs.Reverse.{reversal_of, reversal_by, reversed_by}

-- a glyph in a syllable
abbrev in_syllable : ℕ → ℕ → Item
in_syllable glyph syllable =
    record (new_item 0 0) { glyph_id = glyph; mask = 16; properties = record new_properties { syllable = syllable } }

-- format 1 and another one: 5 after 9 becomes 60
abbrev after_nine : List ℕ
after_nine = words (1 ∷ 14 ∷ 1 ∷ 20 ∷ 0 ∷ 1 ∷ 60 ∷ 1 ∷ 1 ∷ 5 ∷ 1 ∷ 1 ∷ 9 ∷ [])

abbrev with_format : ℕ → List ℕ
with_format format = words (format ∷ 14 ∷ 0 ∷ 0 ∷ 1 ∷ 60 ∷ 0 ∷ 1 ∷ 1 ∷ 5 ∷ [])

abbrev seeing : Lookup → Lookup
seeing l = record l { flags = 0; positioning = false; mask = 16; per_syllable = true }

abbrev Replaces : List Item → (Lookup → List Item → Type 0) → Type 0
Replaces items fact = (l : Lookup) → l.table.now ≡ after_nine → fact (seeing l) items

pub record WorkedReversals : Type 0 where
  -- what stands before is in the syllable, if the lookup stays in one
  pub in_one_syllable : Replaces (in_syllable 9 1 ∷ in_syllable 5 1 ∷ []) (λ l items. is_some (reversal_of l items 1 0 0) ≡ true)
  pub in_two_syllables : Replaces (in_syllable 9 1 ∷ in_syllable 5 2 ∷ []) (λ l items. reversal_of l items 1 0 0 ≡ None)
  pub of_format_1 : (l : Lookup) → l.table.now ≡ with_format 1
      → is_some (reversal_by (seeing l) (in_syllable 5 0 ∷ []) 0 (record { kind = 8; start = 0 })) ≡ true
  pub of_format_2 : (l : Lookup) → l.table.now ≡ with_format 2
      → reversal_by (seeing l) (in_syllable 5 0 ∷ []) 0 (record { kind = 8; start = 0 }) ≡ None
  pub of_another_kind : (l : Lookup) → l.table.now ≡ with_format 1
      → reversal_by (seeing l) (in_syllable 5 0 ∷ []) 0 (record { kind = 7; start = 0 }) ≡ None
  -- it is unsafe to break from what stands before on
  pub unsafe_to_break : (l : Lookup) → l.gdef.now ≡ []
      → map (λ (x : Item). bit_and x.mask 1)
      (reversed_by l 1 (record new_buffer {
        items = record (new_item 0 0) { glyph_id = 9; mask = 16 } ∷ record (new_item 0 1) { glyph_id = 5; mask = 16 } ∷ [];
        positions = zero_position ∷ zero_position ∷ [];
      }) (record { glyph = 60; start = 0; end = 2 })).items ≡ 0 ∷ 1 ∷ []

pub worked_reversals : WorkedReversals
worked_reversals = record {
  in_one_syllable = λ l t. rw t refl;
  in_two_syllables = λ l t. rw t refl;
  of_format_1 = λ l t. rw t refl;
  of_format_2 = λ l t. rw t refl;
  of_another_kind = λ l t. refl;
  unsafe_to_break = λ l g. rw g refl;
}
