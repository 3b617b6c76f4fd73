-- the choice of a strike: a set of bitmaps for one size
use Prim.Native.Nat.{zero}
use Rattle.std.specs.Prelude.{ℕ, suc, min, nat_lt, if◌then◌else◌}

-- how many of so many strikes, or subtables of a strike, are looked at
abbrev pub looked_at : ℕ → ℕ
looked_at said = min said 4096

-- of the first `n` strikes the one with the most pixels to the em square, the first of them; 0 of none
abbrev pub largest : (ℕ → ℕ) → ℕ → ℕ
largest size zero = 0
largest size (suc n) = let best = largest size n in (if nat_lt (size best) (size n) then n else best)
