-- A character that is mapped to its glyph, and an item that is recast as another character, as rounds one and three
-- do.
use Rattle.std.specs.Prelude.{ℕ, List, map, fold, Option, unwrap_or}
use Rattle.std.specs.Option.{option_map}
use Rattle.shape_common.specs.Unicode.{UnicodeMeaning}
use Rattle.shape_common.specs.declared.flags.ScratchFlags.{ScratchFlags}
use Rattle.shape_common.specs.declared.text_types.GlyphId.{GlyphId}
use Rattle.shape_items.specs.Items.{Item}
use Rattle.shape_items.specs.UnicodeProps.{with_unicode_props, with_scratch_of}
use Rattle.shape_normalize.specs.declared.ot_shape_normalize.recast.MappedChar.{MappedChar}

-- the index of the glyph of a character, 0 if it has none
abbrev pub glyph_index : (ℕ → Option GlyphId) → ℕ → ℕ
glyph_index glyph c = unwrap_or (option_map (λ g. g.0) (glyph c)) 0

-- ---- by its character

-- an item recast: a copy with another character, its glyph, and the properties of that character
abbrev pub recast_to : UnicodeMeaning → (ℕ → Option GlyphId) → Item → ℕ → Item
recast_to unicode glyph item c = with_unicode_props unicode (record item { codepoint = c; glyph_index = glyph_index glyph c })

-- the scratch flags once the characters of a list were seen
abbrev pub seen_chars : UnicodeMeaning → ScratchFlags → List ℕ → ScratchFlags
seen_chars unicode flags chars = fold (λ flags c. with_scratch_of unicode c flags) flags chars

-- ---- by its character and glyph

-- a character with the index of its glyph
abbrev pub mapped_char : (ℕ → Option GlyphId) → ℕ → MappedChar
mapped_char glyph c = record { c = c; glyph = glyph_index glyph c }

-- the same of a mapped character
abbrev pub recast : UnicodeMeaning → Item → MappedChar → Item
recast unicode item mapped = with_unicode_props unicode (record item { codepoint = mapped.c; glyph_index = mapped.glyph })

-- the scratch flags once mapped characters were seen
abbrev pub seen_mapped : UnicodeMeaning → ScratchFlags → List MappedChar → ScratchFlags
seen_mapped unicode flags chars = seen_chars unicode flags (map (λ mapped. mapped.c) chars)
