-- loops: so many times, until something is missing, and the first that gives something
use Prim.Native.Nat.{zero}
use Rattle.std.specs.Prelude.{ℕ, suc, Bool, true, false, Option, Some, None, ◌&&◌, ◌||◌}
use Rattle.std.specs.Option.{option_and_then, option_or, option_map_or}

-- a step made so many times
abbrev pub times : {S : Type 0} → (S → S) → ℕ → S → S
times f zero s = s
times f (suc n) s = f (times f n s)

-- steps `k`, `k + 1` and so on, `n` of them; none if one of them gives none
abbrev pub steps : {S : Type 0} → (ℕ → S → Option S) → ℕ → ℕ → S → Option S
steps f zero k s = Some s
steps f (suc n) k s = option_and_then (steps f n (suc k)) (f k s)

-- what the first of `n` places from `i` on gives, of those that give something
abbrev pub first_some : {X : Type 0} → (ℕ → Option X) → ℕ → ℕ → Option X
first_some f zero i = None
first_some f (suc n) i = option_or (f i) (first_some f n (suc i))

-- what `at` says of the first of such steps that gives none, 0 if each gives something
abbrev pub stopped : {S : Type 0} → (ℕ → S → Option S) → (ℕ → S → ℕ) → ℕ → ℕ → S → ℕ
stopped f at zero k s = 0
stopped f at (suc n) k s = option_map_or (stopped f at n (suc k)) (f k s) (at k s)

-- steps `k`, `k + 1` and so on, `n` of them, each of which gives something
abbrev pub along : {S : Type 0} → (ℕ → S → S) → ℕ → ℕ → S → S
along f zero k s = s
along f (suc n) k s = along f n (suc k) (f k s)

-- whether one of `n` numbers from `i` on passes, and whether each does
abbrev pub some_passes : (ℕ → Bool) → ℕ → ℕ → Bool
some_passes p zero i = false
some_passes p (suc n) i = p i || some_passes p n (suc i)

abbrev pub each_passes : (ℕ → Bool) → ℕ → ℕ → Bool
each_passes p zero i = true
each_passes p (suc n) i = p i && each_passes p n (suc i)
