-- Levels of lines in small cases, by hand.
use Rattle.std.specs.Prelude.{◌≡◌, ℕ, [], ◌∷◌, None, Some, map}
use Rattle.ucd_bidi.specs.declared.BidiClass.{BidiClass}
use Rattle.ucd_bidi.specs.declared.BidiClass.TheVariants.{LeftToRight, RightToLeft, WhiteSpace}
use Rattle.bidi.specs.declared.levels.Direction.TheVariants.{RightToLeft as Right}
use Rattle.bidi.specs.declared.text.Paragraph.{Paragraph}
use Rattle.text_lines.specs.Levels.{ByteLevels, HasLevel, IsLevelled, base_at, byte_levels, level_at, levels_between, of_bytes, paragraph_levels}
use Rattle.text_lines.specs.Lines.{run_shown}
use Rattle.text_lines.specs.Worked.{part}
use Rattle.text_lines.specs.declared.lines.TextLine.{TextLine}

-- two Hebrew letters, a space and a Hebrew letter, a byte each, in a paragraph from left to right
abbrev pub hebrew : ByteLevels
hebrew = record {
  levels = 1 ∷ 1 ∷ 1 ∷ 1 ∷ [];
  classes = RightToLeft ∷ RightToLeft ∷ WhiteSpace ∷ RightToLeft ∷ [];
  bases = 0 ∷ 0 ∷ 0 ∷ 0 ∷ [];
}

abbrev pub paragraph_to : ℕ → ℕ → Paragraph
paragraph_to end level = record { end = end; level = level }

pub record WorkedLevels : Type 0 where
  -- `a` is a byte, an alef is two, a euro sign three
  pub bytes : of_bytes {T = ℕ} (0x61 ∷ 0x5D0 ∷ 0x20AC ∷ []) (5 ∷ 6 ∷ 7 ∷ []) ≡ 5 ∷ 6 ∷ 6 ∷ 7 ∷ 7 ∷ 7 ∷ []
  pub no_bytes : of_bytes {T = ℕ} [] (5 ∷ []) ≡ []
  pub paragraphs : paragraph_levels 0 (paragraph_to 2 1 ∷ paragraph_to 3 0 ∷ []) ≡ 1 ∷ 1 ∷ 0 ∷ []
  -- a space that ends its line has the level of the paragraph, and no other
  pub inside : levels_between hebrew 0 0 4 ≡ 1 ∷ 1 ∷ 1 ∷ 1 ∷ []
  pub at_the_end : levels_between hebrew 0 0 3 ≡ 1 ∷ 1 ∷ 0 ∷ []
  pub next_line : levels_between hebrew 0 3 4 ≡ 1 ∷ []
  pub first : level_at (1 ∷ 0 ∷ []) 7 5 5 ≡ 1
  pub second : level_at (1 ∷ 0 ∷ []) 7 5 6 ≡ 0
  pub past : level_at (1 ∷ 0 ∷ []) 7 5 7 ≡ 7
  pub base : base_at (record hebrew { bases = 0 ∷ 1 ∷ [] }) 1 ≡ 1
  pub base_past : base_at hebrew 9 ≡ 0
  -- `a` and an alef, which is two bytes: from right to left the letter `a` is embedded
  pub no_text : byte_levels None [] ≡ record { levels = []; classes = []; bases = [] }
  pub both_letters : (byte_levels None (0x61 ∷ 0x5D0 ∷ [])).levels ≡ 0 ∷ 1 ∷ 1 ∷ []
  pub both_classes : (byte_levels None (0x61 ∷ 0x5D0 ∷ [])).classes ≡ LeftToRight ∷ RightToLeft ∷ RightToLeft ∷ []
  pub both_bases : (byte_levels None (0x61 ∷ 0x5D0 ∷ [])).bases ≡ 0 ∷ 0 ∷ 0 ∷ []
  pub right_to_left : (byte_levels (Some Right) (0x61 ∷ 0x5D0 ∷ [])).levels ≡ 2 ∷ 1 ∷ 1 ∷ []
  pub right_bases : (byte_levels (Some Right) (0x61 ∷ 0x5D0 ∷ [])).bases ≡ 1 ∷ 1 ∷ 1 ∷ []
  -- a part of a line that begins at byte 5 has the level of its first byte
  pub of_its_first : HasLevel (1 ∷ 0 ∷ []) 0 5 (part 5 7 1)
  pub of_no_other : HasLevel (1 ∷ 0 ∷ []) 0 5 (part 6 7 1) → ⊥
  -- the line up to the space: the letters, and the space at the level of its paragraph
  pub levelled : (line : TextLine) → line.start ≡ 0 → line.end ≡ 3 → line.level ≡ 0
      → map run_shown line.runs.items ≡ part 0 2 1 ∷ part 2 3 0 ∷ [] → IsLevelled hebrew line
  pub not_by_itself : (line : TextLine) → line.start ≡ 0 → line.level ≡ 1 → IsLevelled hebrew line → ⊥
