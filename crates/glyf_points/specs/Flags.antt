-- flags of points (OpenType, "glyf", simple glyphs)
use Prim.Native.Nat.{zero}
use Rattle.std.specs.Prelude.{ℕ, suc, List, [], ◌∷◌, Bool, Option, Some, None, ◌+◌, ◌-◌, nat_eq, nat_le, not, length, if◌then◌else◌, slice_index}
use Rattle.std.specs.Option.{option_map, option_and_then}
use Rattle.std.specs.Int.RustNames.{bit_and}
use Rattle.glyf_points.specs.declared.flags.Flag.{Flag}

-- whether a flag has a bit
abbrev pub has : ℕ → ℕ → Bool
has flag bit = not (nat_eq (bit_and flag bit) 0)

-- REPEAT_FLAG: the next byte says how many more points have the flag
abbrev pub flag_size : ℕ → ℕ
flag_size flag = if has flag 8 then 2 else 1

-- before the first point
abbrev pub first : ℕ → Flag
first start = record { flag = 0; left = 0; next = start }

-- the flag of the point after one with this flag
abbrev pub flag_after : List ℕ → Flag → Option Flag
flag_after t before = let flag = slice_index t before.next in
    (if nat_eq before.left 0
    then (if nat_le (before.next + flag_size flag) (length t)
    then Some (record {
      flag = flag;
      left = if has flag 8 then slice_index t (before.next + 1) else 0;
      next = before.next + flag_size flag;
    })
    else None)
    else Some (record before { left = before.left - 1 }))

-- flags, and where they end
pub record Read : Type 0 where
  pub flags : List ℕ
  pub end : ℕ

abbrev pub read : List ℕ → ℕ → Read
read flags end = record { flags = flags; end = end }

abbrev pub with_flag : ℕ → Read → Read
with_flag flag r = record r { flags = flag ∷ r.flags }

-- the flags of `n` points after one with this flag
abbrev pub flags_of : List ℕ → ℕ → Flag → Option Read
flags_of t zero before = Some (read [] before.next)
flags_of t (suc n) before = option_and_then (λ f. option_map (with_flag f.flag) (flags_of t n f)) (flag_after t before)
