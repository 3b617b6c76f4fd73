-- where the points of a glyph of `glyf` stand at coordinates, as `gvar` moves them (OpenType, "gvar")
use Rattle.std.specs.Prelude.{ℕ, List, [], ◌∷◌, ◌++◌, ◌-◌, ◌/◌, true, false, length, slice_index_or}
use Rattle.glyf_points.specs.declared.simple.GlyphPoint.{GlyphPoint}
use Rattle.glyph_variations.specs.Glyph.{Stored}
use Rattle.glyph_variations.specs.Inferred.{no_point}
use Rattle.glyph_variations.specs.Outline.{outline_moved}
use Rattle.glyph_variations.specs.Times.{steps}
use Rattle.glyph_variations.specs.declared.sums.Moving.{Moving}
use Rattle.shape_font.specs.BoxesAt.{coordinate}
use Rattle.glyph_outlines.specs.declared.parts.TheConstants.{MOST_VARIED_STEPS, VARIED_STEPS_OF_A_POINT}
use Rattle.glyph_outlines.specs.declared.varied.VariedPoint.{VariedPoint}
use Rattle.glyph_outlines.specs.declared.varied.VariedPoints.{VariedPoints}

-- points, each where it comes to stand along the line and up
abbrev pub varied_at : List GlyphPoint → List Moving → List Moving → ℕ → VariedPoint
varied_at points xs ys i = let p = slice_index_or points i no_point in
    record { x = coordinate xs i; y = coordinate ys i; on = p.on; ends = p.ends }

abbrev pub varied_step : List GlyphPoint → List Moving → List Moving → ℕ → List VariedPoint → List VariedPoint
varied_step points xs ys i varied = varied ++ varied_at points xs ys i ∷ []

unfoldable pub joined : List GlyphPoint → List Moving → List Moving → List VariedPoint
joined points xs ys = steps (varied_step points xs ys) (length points) []

-- where they stand, and how much may still be read
pub record Varied : Type 0 where
  pub points : List VariedPoint
  pub left : ℕ

abbrev pub varied : VariedPoints → Varied
varied v = record { points = v.points.items; left = v.left }

unfoldable pub varied_of : Stored → List GlyphPoint → ℕ → Varied
varied_of g points left = let across = outline_moved g points false left in
    let upwards = outline_moved g points true across.walk.left in
    record { points = joined points across.moving upwards.moving; left = upwards.walk.left }

-- as how many points what was read counts
abbrev pub counted : ℕ → ℕ
counted left = (MOST_VARIED_STEPS - left) / VARIED_STEPS_OF_A_POINT
