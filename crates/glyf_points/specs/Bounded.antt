-- the points of a glyph that is drawn by itself, if they are few
use Rattle.std.specs.Prelude.{ℕ, List, Option, None, ◌+◌, ◌*◌, ◌||◌, nat_eq, nat_le, nat_lt, if◌then◌else◌}
use Rattle.font_bytes.specs.Bytes.{u16_of}
use Rattle.glyf_points.specs.Simple.{points_of}
use Rattle.glyf_points.specs.Composite.{components_of}
use Rattle.glyf_points.specs.declared.composite.Component.{Component}
use Rattle.glyf_points.specs.declared.simple.GlyphPoint.{GlyphPoint}

-- how many a glyph says that it has
abbrev pub own_points : List ℕ → ℕ
own_points t = let contours = u16_of t 0 in (if nat_eq contours 0 || nat_le 0x8000 contours then 0 else u16_of t (8 + 2 * contours) + 1)

abbrev pub few_points : List ℕ → Option (List GlyphPoint)
few_points t = if nat_lt 2048 (own_points t) then None else points_of t

-- the first components
unfoldable pub few_components : List ℕ → List Component
few_components t = components_of t 64
