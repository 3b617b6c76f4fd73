-- the glyphs that a glyph is made of (OpenType, "glyf", composite glyphs)
use Prim.Native.Nat.{zero}
use Rattle.std.specs.Prelude.{ℕ, ℤ, pos, suc, List, [], ◌∷◌, ◌+◌, ◌^◌, ◌||◌, nat_eq, nat_le, nat_lt, length, if◌then◌else◌, slice_index}
use Rattle.std.specs.Int.RustNames.{bit_and}
use Rattle.font_bytes.specs.Bytes.{u16_of, i8_of, i16_of}
use Rattle.glyf_points.specs.Flags.{has}
use Rattle.glyf_points.specs.declared.composite.Placement.{Placement}
use Rattle.glyf_points.specs.declared.composite.Placement.TheVariants.{Moved, OnPoint}
use Rattle.glyf_points.specs.declared.composite.Matrix.{Matrix}
use Rattle.glyf_points.specs.declared.composite.Component.{Component}

-- after the flags and the glyph stand two arguments: ARG_1_AND_2_ARE_WORDS
abbrev pub matrix_start : ℕ → ℕ → ℕ
matrix_start at flags = at + (if has flags 1 then 8 else 6)

-- WE_HAVE_A_SCALE, WE_HAVE_AN_X_AND_Y_SCALE, WE_HAVE_A_TWO_BY_TWO
abbrev pub matrix_size : ℕ → ℕ
matrix_size flags = if has flags 8 then 2 else (if has flags 0x40 then 4 else (if has flags 0x80 then 8 else 0))

abbrev pub component_size : ℕ → ℕ
component_size flags = matrix_start 0 flags + matrix_size flags

-- ARGS_ARE_XY_VALUES; else they are numbers of points, of which the first is that of the whole
abbrev pub placement_of : List ℕ → ℕ → ℕ → Placement
placement_of t at flags = if has flags 2
    then (if has flags 1 then Moved (i16_of t (at + 4)) (i16_of t (at + 6)) else Moved (i8_of t (at + 4)) (i8_of t (at + 5)))
    else (if has flags 1 then OnPoint (u16_of t (at + 4)) (u16_of t (at + 6))
    else OnPoint (slice_index t (at + 4)) (slice_index t (at + 5)))

abbrev pub scaled : ℤ → ℤ → Matrix
scaled x y = record { xx = x; xy = pos 0; yx = pos 0; yy = y }

-- xscale, scale01, scale10 and yscale; 16384 is one
abbrev pub matrix_of : List ℕ → ℕ → ℕ → Matrix
matrix_of t at flags = let start = matrix_start at flags in
    (if has flags 8 then scaled (i16_of t start) (i16_of t start)
    else (if has flags 0x40 then scaled (i16_of t start) (i16_of t (start + 2))
    else (if has flags 0x80
    then record { xx = i16_of t start; xy = i16_of t (start + 2); yx = i16_of t (start + 4); yy = i16_of t (start + 6) }
    else scaled (pos 16384) (pos 16384))))

-- SCALED_COMPONENT_OFFSET without UNSCALED_COMPONENT_OFFSET; USE_MY_METRICS
abbrev pub component_of : List ℕ → ℕ → ℕ → Component
component_of t at flags = record {
  glyph = u16_of t (at + 2);
  placement = placement_of t at flags;
  matrix = matrix_of t at flags;
  is_offset_scaled = nat_eq (bit_and flags 0x1800) 0x800;
  has_metrics = has flags 0x200;
}

-- at most `n` components from a place on: MORE_COMPONENTS
abbrev pub components_from : List ℕ → ℕ → ℕ → List Component
components_from t zero at = []
components_from t (suc n) at = let flags = u16_of t at in
    (if nat_lt (length t) (at + component_size flags) then []
    else (component_of t at flags ∷ (if has flags 0x20 then components_from t n (at + component_size flags) else [])))

-- at most so many of a glyph with a negative number of contours
abbrev pub components_of : List ℕ → ℕ → List Component
components_of t most = if nat_lt (u16_of t 0) 0x8000 || nat_le (2 ^ 32) (length t) then [] else components_from t most 10
