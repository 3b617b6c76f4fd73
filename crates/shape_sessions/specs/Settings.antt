-- What the words after the first one set: which words are meant, and what they say.
use Rattle.std.specs.Prelude.{◌≡◌, ◌≢◌, ◌==◌, ℕ, ◌≤◌, ◌^◌, ◌-◌, ⊤, true, List, [], ◌∷◌, Option, Some, None, is_some, unwrap_or, slice_index, if◌then◌else◌}
use Rattle.std.specs.Int.RustNames.{bit_and}
use Rattle.std.specs.Str.Parse.{IsNumeral, digits_value, signed_digits_value, without_leading_sign}
use Rattle.shape_common.specs.declared.text_types.BufferClusterLevel.{BufferClusterLevel}
use Rattle.shape_common.specs.declared.text_types.BufferClusterLevel.TheVariants.{MonotoneGraphemes, MonotoneCharacters, Characters}
use Rattle.shape_common.specs.declared.text_types.Direction.{Direction}
use Rattle.shape_common.specs.declared.text_types.Direction.TheVariants.{Invalid}
use Rattle.shape_common.specs.declared.face.hb_glyph_extents_t.{hb_glyph_extents_t}
use Rattle.shape_sessions.specs.Commands.{direction_of}
use Rattle.shape_sessions.specs.declared.settings.GlyphLine.{GlyphLine}
use Rattle.shape_sessions.specs.Text.{IsCharacterWord}
use mir.Syntax.{w32}
use mir.Val.{SFits}

-- decimal digits that write a number up to a greatest one
abbrev pub IsNatural : ℕ → List ℕ → Type 0
IsNatural most word = IsNumeral 10 word × (digits_value 10 word ≤ most)

-- decimal digits, after one minus at most, that write a number of 32 bits
abbrev pub IsSigned : List ℕ → Type 0
IsSigned word = (slice_index word 0 ≢ 43) × IsNumeral 10 (without_leading_sign word) × SFits w32 (signed_digits_value 10 word)

-- one word, which writes a number up to a greatest one
abbrev pub IsNumber : ℕ → List (List ℕ) → Type 0
IsNumber most (word ∷ []) = IsNatural most word
IsNumber most _ = ⊥

-- the number of the one word
abbrev pub number : List (List ℕ) → ℕ
number (word ∷ []) = digits_value 10 word
number _ = 0

-- units per em: 1 to 65535
abbrev pub IsUnits : List (List ℕ) → Type 0
IsUnits words = IsNumber 65535 words × (number words ≢ 0)

-- a level from 0 to 2
abbrev pub level_of : ℕ → BufferClusterLevel
level_of number =
    if number == 0 then MonotoneGraphemes
    else (if number == 1 then MonotoneCharacters else Characters)

-- all flags that there are: 2 + 4 + 8 + 16 + 32 + 64 + 128
abbrev pub ALL_FLAGS : ℕ
ALL_FLAGS = 254

-- bits of the flags that there are, and no other
abbrev pub IsFlags : List (List ℕ) → Type 0
IsFlags words = IsNumber (2 ^ 32 - 1) words × (bit_and (number words) ALL_FLAGS ≡ number words)

-- one word for a direction
abbrev pub IsDirection : List (List ℕ) → Type 0
IsDirection (word ∷ []) = is_some (direction_of word) ≡ true
IsDirection _ = ⊥

-- the direction of the one word
abbrev pub direction_said : List (List ℕ) → Direction
direction_said (word ∷ []) = unwrap_or (direction_of word) Invalid
direction_said _ = Invalid

-- no word, or four numbers
abbrev pub IsExtents : List (List ℕ) → Type 0
IsExtents [] = ⊤
IsExtents (x_bearing ∷ y_bearing ∷ width ∷ height ∷ []) = IsSigned x_bearing × IsSigned y_bearing × IsSigned width × IsSigned height
IsExtents _ = ⊥

-- the extents of these numbers; without words there are none
abbrev pub extents_of : List (List ℕ) → Option hb_glyph_extents_t
extents_of (x_bearing ∷ y_bearing ∷ width ∷ height ∷ []) = Some (record {
  x_bearing = signed_digits_value 10 x_bearing;
  y_bearing = signed_digits_value 10 y_bearing;
  width = signed_digits_value 10 width;
  height = signed_digits_value 10 height;
})
extents_of _ = None

-- a character, its glyph, its advance, and extents or none
abbrev pub IsGlyph : List (List ℕ) → Type 0
IsGlyph (c ∷ glyph ∷ advance ∷ extents) = IsCharacterWord c × IsNatural 65535 glyph × IsSigned advance × IsExtents extents
IsGlyph _ = ⊥

-- what these words say
abbrev pub SaysGlyph : List (List ℕ) → GlyphLine → Type 0
SaysGlyph (c ∷ glyph ∷ advance ∷ extents) said = said ≡ record {
  c = digits_value 16 c;
  glyph = record { 0 = digits_value 10 glyph };
  metrics = record { advance = signed_digits_value 10 advance; extents = extents_of extents };
}
SaysGlyph _ said = ⊥
