-- Fonts that are kept.
use Rattle.std.specs.Prelude.{◌≡◌, ◌≤◌, ◌<◌, ◌++◌, ℕ, ℤ, List, [], Option, Some, None, length, drop}
use Rattle.opentype_layout.specs.Fonts.{IsFaceOf}
use Rattle.opentype_layout.specs.declared.face.OpenTypeFace.{OpenTypeFace}
use Rattle.shape_font.specs.Face.{name_of_glyph}
use Rattle.c_runs.specs.Instances.{IsFaceAt}

-- what is kept is the face of these bytes
abbrev pub IsOpened : List ℕ → ℕ → Option OpenTypeFace → Type 0
IsOpened bytes index None = ⊥
IsOpened bytes index (Some face) = IsFaceOf bytes index face

-- or the face at these coordinates
abbrev pub IsOpenedAt : List ℕ → ℕ → List ℤ → Option OpenTypeFace → Type 0
IsOpenedAt bytes index coordinates None = ⊥
IsOpenedAt bytes index coordinates (Some face) = IsFaceAt bytes index coordinates face

-- the units of the em square, 0 of no font
abbrev pub units_kept : Option OpenTypeFace → ℕ
units_kept None = 0
units_kept (Some face) = face.font.units_per_em

-- the bytes of a glyph's name, by `post` or else by the charset of `CFF `; none if it has none
abbrev pub name_or_none : Option (List ℕ) → List ℕ
name_or_none None = []
name_or_none (Some name) = name

abbrev pub name_bytes : OpenTypeFace → ℕ → List ℕ
name_bytes face glyph = name_or_none (name_of_glyph face.font glyph)

abbrev pub name_kept : Option OpenTypeFace → ℕ → List ℕ
name_kept None glyph = []
name_kept (Some face) glyph = name_bytes face glyph

-- the name is counted, and stands in the first places if there is room for it
pub record IsNamed (name old new : List ℕ) (count : ℕ) : Type 0 where
  pub count_is : count ≡ length name
  pub fits : length name ≤ length old → new ≡ name ++ drop (length name) old
  pub else_same : length old < length name → new ≡ old
