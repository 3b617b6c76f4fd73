-- The levels of a line: those of UAX 9, for each byte of a text.
use Rattle.std.specs.Prelude.{◌≡◌, ℕ, ◌-◌, List, [], ◌∷◌, ◌++◌, Option, All, map, replicate, slice_index_or}
use Rattle.std.specs.Char.{len_utf8}
use Rattle.std.specs.List.{slice_range}
use Rattle.ucd_bidi.specs.declared.BidiClass.{BidiClass}
use Rattle.bidi.specs.Levels.{classes_of}
use Rattle.bidi.specs.Lines.{line_levels}
use Rattle.bidi.specs.Text.{text_levels, text_paragraphs}
use Rattle.bidi.specs.declared.levels.Direction.{Direction}
use Rattle.bidi.specs.declared.text.Paragraph.{Paragraph}
use Rattle.text_lines.specs.Lines.{Shown, AreParts, in_order, run_shown}
use Rattle.text_lines.specs.declared.lines.TextLine.{TextLine}

-- what is said of each character, said of each of its bytes
abbrev pub of_bytes : {T : Type 0} → List ℕ → List T → List T
of_bytes [] values = []
of_bytes (c ∷ characters) [] = []
of_bytes (c ∷ characters) (value ∷ values) = replicate (len_utf8 c) value ++ of_bytes characters values

-- the level of the paragraph of each character, from a place of the text on
abbrev pub paragraph_levels : ℕ → List Paragraph → List ℕ
paragraph_levels start [] = []
paragraph_levels start (paragraph ∷ paragraphs) =
    replicate (paragraph.end - start) paragraph.level ++ paragraph_levels paragraph.end paragraphs

-- the bytes of a text before L1: the level of each, its class, and the level of its paragraph
pub record ByteLevels : Type 0 where
  pub levels : List ℕ
  pub classes : List BidiClass
  pub bases : List ℕ

-- by the rules P1 to I2, where each paragraph has the direction that is given or that of its first strong character
abbrev pub byte_levels : Option Direction → List ℕ → ByteLevels
byte_levels direction characters = record {
  levels = of_bytes characters (text_levels direction characters);
  classes = of_bytes characters (classes_of characters);
  bases = of_bytes characters (paragraph_levels 0 (text_paragraphs direction characters));
}

abbrev pub base_at : ByteLevels → ℕ → ℕ
base_at bytes at = slice_index_or bytes.bases at 0

-- L1: the levels of a line from one byte up to another, in a paragraph of a level
abbrev pub levels_between : ByteLevels → ℕ → ℕ → ℕ → List ℕ
levels_between bytes base start end =
    line_levels base (slice_range bytes.classes start end) (slice_range bytes.levels start end)

-- the level of a byte of a line, given the levels of its bytes
abbrev pub level_at : List ℕ → ℕ → ℕ → ℕ → ℕ
level_at levels base start at = slice_index_or levels (at - start) base

-- a part of a line has the level of its first byte
abbrev pub HasLevel : List ℕ → ℕ → ℕ → Shown → Type 0
HasLevel levels base start part = part.level ≡ level_at levels base start part.start

-- a line has the level of its paragraph, and its runs are parts of its text in the order of L2, each with its level after L1
pub record IsLevelled (bytes : ByteLevels) (line : TextLine) : Type 0 where
  pub base : line.level ≡ base_at bytes line.start
  pub parts : List Shown
  pub follow : AreParts line.start line.end parts
  pub levels : All (HasLevel (levels_between bytes line.level line.start line.end) line.level line.start) parts
  pub runs : map run_shown line.runs.items ≡ in_order parts
