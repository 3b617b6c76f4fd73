-- How far the lines of a face reach, by tables that were read by hand.
use Rattle.std.specs.Prelude.{◌≡◌, pos, negsuc, [], None}
use Rattle.opentype_layout.specs.declared.face.OpenTypeFace.{OpenTypeFace}
use Rattle.paragraph.specs.Reach.{reach_of_face}
use Rattle.shape_font.specs.Worked.Lines.{plain_line, designed_line}

-- at the default instance: 800 up and 200 down by `hhea`, 700 and 300 by `OS/2` where that is to be used
pub record WorkedFaces : Type 0 where
  pub plain : (face : OpenTypeFace) → face.font.coordinates.now ≡ [] → face.font.scale ≡ None → face.font.units_per_em ≡ 1000 → face.font.os2.now ≡ []
      → face.font.hhea.now ≡ plain_line → reach_of_face face ≡ record { units = 1000; above = pos 800; below = negsuc 199 }
  pub designed : (face : OpenTypeFace) → face.font.coordinates.now ≡ [] → face.font.scale ≡ None → face.font.units_per_em ≡ 2048
      → face.font.os2.now ≡ designed_line 128 → reach_of_face face ≡ record { units = 2048; above = pos 700; below = negsuc 299 }
