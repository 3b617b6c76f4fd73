-- The text of a string and the face of a font file's bytes, where a clause speaks of them.
use Rattle.std.specs.Prelude.{◌≡◌, ℕ, List}
use Rattle.shape_items.specs.Buffer.{Buffer}
use Rattle.opentype_layout.specs.Fonts.{IsFaceOf}
use Rattle.opentype_layout.specs.declared.face.OpenTypeFace.{OpenTypeFace}
use Rattle.shape_pipeline.specs.Strings.{string_text}

-- so much holds of the text of a string
abbrev pub WithTextOf : List ℕ → (Buffer → Type 0) → Type 0
WithTextOf bytes Holds = (text : Buffer) × (text ≡ string_text bytes) × Holds text

-- so much holds of the face of these bytes
abbrev pub WithFaceOf : List ℕ → ℕ → (OpenTypeFace → Type 0) → Type 0
WithFaceOf bytes index Holds = (face : OpenTypeFace) × IsFaceOf bytes index face × Holds face
