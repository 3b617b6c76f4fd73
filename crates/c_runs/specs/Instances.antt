-- Instances of variable fonts: the coordinates that C asks for, and a font there.
use Rattle.std.specs.Prelude.{◌≡◌, ◌≤◌, ◌<◌, ◌++◌, ℕ, ℤ, List, None, length, map, drop}
use Rattle.font_variations.specs.Coordinates.{coordinates_of}
use Rattle.font_variations.specs.declared.coordinates.Variation.{Variation}
use Rattle.layout_positions.specs.Devices.{work_of}
use Rattle.opentype_layout.specs.Fonts.{IsFontOf}
use Rattle.opentype_layout.specs.declared.face.OpenTypeFace.{OpenTypeFace}
use Rattle.shape_font.specs.Directory.{bytes_of}
use Rattle.shape_font.specs.declared.face.FontFace.{FontFace}
use Rattle.c_runs.specs.declared.plain.luthgarn_variation.{luthgarn_variation}

-- ---- coordinates

-- the wish that C writes
abbrev pub variation_of_c : luthgarn_variation → Variation
variation_of_c v = record { tag = v.tag; value = v.value }

-- by the tables `fvar` and `avar`, without a named instance
abbrev pub asked_coordinates : List ℕ → ℕ → List luthgarn_variation → List ℤ
asked_coordinates bytes index wishes =
    coordinates_of (bytes_of bytes index 0x66766172) (bytes_of bytes index 0x61766172) None (map variation_of_c wishes)

-- they are counted, and stand in the first places if there is room for them, which the code says
pub record AreWritten (coordinates old new : List ℤ) (count code : ℕ) : Type 0 where
  pub count_is : count ≡ length coordinates
  pub fits : length coordinates ≤ length old → (code ≡ 0) × (new ≡ coordinates ++ drop (length coordinates) old)
  pub else_same : length old < length coordinates → (code ≡ 6) × (new ≡ old)

-- ---- fonts at coordinates

-- the font of these bytes, which differs in its coordinates alone from the one at the default instance; glyphs vary by `gvar`
pub record IsFontAt (bytes : List ℕ) (index : ℕ) (coordinates : List ℤ) (font : FontFace) : Type 0 where
  pub plain : FontFace
  pub is_plain : IsFontOf bytes index plain
  pub else_same : font ≡ record plain { coordinates = font.coordinates }
  pub gvar : font.gvar.now ≡ bytes_of bytes index 0x67766172
  pub coordinates_are : font.coordinates.now ≡ coordinates

-- its face, with the three tables of layout, at no size
pub record IsFaceAt (bytes : List ℕ) (index : ℕ) (coordinates : List ℤ) (face : OpenTypeFace) : Type 0 where
  pub font : IsFontAt bytes index coordinates face.font
  pub gdef : face.gdef.now ≡ bytes_of bytes index 0x47444546
  pub gsub : face.gsub.now ≡ bytes_of bytes index 0x47535542
  pub gpos : face.gpos.now ≡ bytes_of bytes index 0x47504F53
  pub coordinates_are : face.coordinates.now ≡ coordinates
  pub scale : face.scale ≡ None
  pub device_work : face.device_work ≡ work_of (bytes_of bytes index 0x47444546) coordinates
