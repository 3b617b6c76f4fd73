-- The axes of a font, and its named instances (OpenType, `fvar`).
use Rattle.std.specs.Prelude.{ℕ, List, Bool, cond, ◌+◌, ◌*◌, ◌&&◌, nat_eq, nat_le, length, if◌then◌else◌}
use Rattle.std.specs.Float.{Float, binary32}
use lib.Ieee.{of_int, div, le}
use Rattle.font_bytes.specs.Bytes.{u16_of, u32_of, i32_of}
use Rattle.font_variations.specs.declared.axes.Axis.{Axis}
use Rattle.font_variations.specs.declared.axes.TheConstants.{FIXED_ONE}

-- a number of 16.16 bits, to the nearest one of binary32
abbrev pub fixed : List ℕ → ℕ → Float
fixed t at = div binary32 (of_int binary32 (i32_of t at)) FIXED_ONE

-- records of axes have 20 bytes, and stand at an offset
abbrev pub axes_at : List ℕ → ℕ
axes_at t = u16_of t 4

abbrev pub said_axes : List ℕ → ℕ
said_axes t = u16_of t 8

-- records of instances come after them: two numbers, a coordinate for each axis, and maybe more
abbrev pub instances_at : List ℕ → ℕ
instances_at t = axes_at t + 20 * said_axes t

abbrev pub instance_size : List ℕ → ℕ
instance_size t = u16_of t 14

-- major version 1, with records of the right size, all within the table
abbrev pub is_read : List ℕ → Bool
is_read t = nat_eq (u16_of t 0) 1 && nat_eq (u16_of t 10) 20 && nat_le (4 * said_axes t + 4) (instance_size t)
    && nat_le (instances_at t + instance_size t * u16_of t 12) (length t)

abbrev pub axis_count : List ℕ → ℕ
axis_count t = if is_read t then said_axes t else 0

abbrev pub instance_count : List ℕ → ℕ
instance_count t = if is_read t then u16_of t 12 else 0

abbrev pub axis_at : List ℕ → ℕ → ℕ
axis_at t axis = axes_at t + 20 * axis

-- The least value of an axis is at most its default, and the greatest at least that, whatever the table says.
abbrev pub axis_of : List ℕ → ℕ → Axis
axis_of t axis = let at = axis_at t axis in let default = fixed t (at + 8) in record {
  tag = u32_of t at;
  least = cond (le default (fixed t (at + 4))) default (fixed t (at + 4));
  default = default;
  greatest = cond (le (fixed t (at + 12)) default) default (fixed t (at + 12));
}

-- the coordinate of an axis in a named instance
abbrev pub instance_value : List ℕ → ℕ → ℕ → Float
instance_value t instance axis = fixed t (instances_at t + instance_size t * instance + 4 + 4 * axis)
