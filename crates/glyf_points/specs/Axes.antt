-- coordinates along one axis (OpenType, "glyf", simple glyphs): each is the one before it and a step
use Rattle.std.specs.Prelude.{ℕ, ℤ, pos, List, [], ◌∷◌, Option, Some, None, ◌+◌, nat_le, length, if◌then◌else◌, slice_index}
use Rattle.std.specs.Option.{option_map}
use Rattle.shape_common.specs.Wrapping.{◌+ʷ◌, ◌-ʷ◌}
use Rattle.font_bytes.specs.Bytes.{i16_of}
use Rattle.glyf_points.specs.Flags.{has}
use Rattle.glyf_points.specs.declared.axes.Axis.{Axis}

-- X_SHORT_VECTOR and X_IS_SAME_OR_POSITIVE_X_SHORT_VECTOR, and those for y
abbrev pub across : Axis
across = record { short = 2; same = 16 }

abbrev pub upwards : Axis
upwards = record { short = 4; same = 32 }

-- a byte; none if the point lies where the one before it does; else two bytes
abbrev pub step_size : Axis → ℕ → ℕ
step_size axis flag = if has flag axis.short then 1 else (if has flag axis.same then 0 else 2)

-- the sign of a byte is a bit of the flag; two bytes are in two's complement
abbrev pub next_value : List ℕ → ℕ → Axis → ℕ → ℤ → ℤ
next_value t at axis flag before = if has flag axis.short
    then (if has flag axis.same then before +ʷ pos (slice_index t at) else before -ʷ pos (slice_index t at))
    else (if has flag axis.same then before else before +ʷ i16_of t at)

-- coordinates, and where their bytes end
pub record Read : Type 0 where
  pub values : List ℤ
  pub end : ℕ

abbrev pub read : List ℤ → ℕ → Read
read values end = record { values = values; end = end }

abbrev pub with_value : ℤ → Read → Read
with_value value r = record r { values = value ∷ r.values }

-- the coordinates of points with these flags, after one that lies at `before`
abbrev pub values_of : List ℕ → Axis → List ℕ → ℕ → ℤ → Option Read
values_of t axis [] at before = Some (read [] at)
values_of t axis (flag ∷ flags) at before = let here = next_value t at axis flag before in
    (if nat_le (at + step_size axis flag) (length t)
    then option_map (with_value here) (values_of t axis flags (at + step_size axis flag) here)
    else None)
