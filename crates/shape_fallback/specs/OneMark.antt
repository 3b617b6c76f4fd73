-- Placing one mark.
use Rattle.std.specs.Prelude.{ℕ, ℤ, pos, Bool, not, ◌==◌, ◌||◌, ◌&&◌, if◌then◌else◌, int_div, Option, Some, None}
use Rattle.std.specs.Int.{is_positive}
use Rattle.shape_fallback.specs.declared.ot_shape_fallback.one_mark.Stacked.{Stacked}
use Rattle.shape_fallback.specs.declared.ot_shape_fallback.one_mark.PlacedMark.{PlacedMark}
use Rattle.shape_fallback.specs.declared.ot_shape_fallback.one_mark.Surroundings.{Surroundings}
use Rattle.shape_common.specs.Wrapping.{◌+ʷ◌, ◌-ʷ◌, neg_w}
use Rattle.shape_fallback.specs.Extents.{Extents}

-- ccc of marks over two letters, and of those at the left and at the right of the base
unfoldable pub is_double : ℕ → Bool
is_double ccc = ccc == 233 || ccc == 234

unfoldable pub is_left : ℕ → Bool
is_left ccc = ccc == 200 || ccc == 218 || ccc == 228

unfoldable pub is_right : ℕ → Bool
is_right ccc = ccc == 216 || ccc == 222 || ccc == 232

-- the x offset of a mark with extents E on a base with extents B
abbrev pub mark_x_offset : Bool → Bool → ℕ → Extents → Extents → ℤ
mark_x_offset horizontal forward ccc B E =
    if horizontal && is_double ccc then
    B.x_bearing +ʷ (if forward then B.width else pos 0) -ʷ int_div E.width (pos 2) -ʷ E.x_bearing
    else if is_left ccc then B.x_bearing -ʷ E.x_bearing
    else if is_right ccc then B.x_bearing +ʷ B.width -ʷ E.width -ʷ E.x_bearing
    else B.x_bearing +ʷ int_div (B.width -ʷ E.width) (pos 2) -ʷ E.x_bearing

-- both numbers are positive, or neither
unfoldable pub agree : ℤ → ℤ → Bool
agree a b = if is_positive a then is_positive b else not (is_positive b)

-- ccc of marks below the base, and of those that touch it
unfoldable pub is_below : ℕ → Bool
is_below ccc = ccc == 233 || ccc == 218 || ccc == 220 || ccc == 222 || ccc == 200 || ccc == 202

unfoldable pub is_above : ℕ → Bool
is_above ccc = ccc == 234 || ccc == 228 || ccc == 230 || ccc == 232 || ccc == 214 || ccc == 216

unfoldable pub is_attached : ℕ → Bool
is_attached ccc = ccc == 200 || ccc == 202 || ccc == 214 || ccc == 216

-- the mark under a base whose gap is taken into account: never moved up
abbrev pub hung : ℤ → Extents → Extents → Stacked
hung gap E B =
    let y = B.y_bearing +ʷ B.height -ʷ E.y_bearing in
    if agree gap y then record { y_offset = pos 0; base = record B { height = B.height -ʷ y +ʷ E.height } }
    else record { y_offset = y; base = record B { height = B.height +ʷ E.height } }

-- the mark on a base whose gap is taken into account: not moved down too much
abbrev pub piled : ℤ → Extents → Extents → Stacked
piled gap E B =
    let y = B.y_bearing -ʷ (E.y_bearing +ʷ E.height) in
    let k = int_div (neg_w y) (pos 2) in
    if agree gap y then record {
      y_offset = y;
      base = record B { y_bearing = B.y_bearing -ʷ E.height; height = B.height +ʷ E.height };
    }
    else record {
      y_offset = y +ʷ k;
      base = record B { y_bearing = B.y_bearing +ʷ k -ʷ E.height; height = B.height -ʷ k +ʷ E.height };
    }

-- the base with a gap below it, except for marks that touch it
unfoldable pub lowered : ℤ → ℕ → Extents → Extents
lowered gap ccc B = if is_attached ccc then B else record B { height = B.height -ʷ gap }

-- the base with a gap above it, except for marks that touch it
unfoldable pub raised : ℤ → ℕ → Extents → Extents
raised gap ccc B =
    if is_attached ccc then B else record B { y_bearing = B.y_bearing +ʷ gap; height = B.height -ʷ gap }

-- the rule for the y offset, by ccc
abbrev pub stacked : ℤ → ℕ → Extents → Extents → Stacked
stacked gap ccc B E =
    if is_below ccc then hung gap E (lowered gap ccc B)
    else if is_above ccc then piled gap E (raised gap ccc B)
    else record { y_offset = pos 0; base = B }

-- a mark of known extents
abbrev pub mark_placed_with : Bool → Bool → ℤ → ℕ → PlacedMark → Extents → PlacedMark
mark_placed_with horizontal forward gap ccc p E =
    let s = stacked gap ccc p.base E in
    record {
      position = record p.position { x_offset = mark_x_offset horizontal forward ccc p.base E; y_offset = s.y_offset };
      base = s.base;
    }

-- a mark; if the face has no extents for it nothing changes
unfoldable pub mark_placed : Surroundings → Option Extents → ℕ → PlacedMark → PlacedMark
mark_placed s None ccc p = p
mark_placed s (Some E) ccc p = mark_placed_with s.horizontal s.forward s.gap ccc p E
