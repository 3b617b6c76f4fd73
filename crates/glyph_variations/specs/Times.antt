-- a step that is taken so many times
use Prim.Native.Nat.{zero}
use Rattle.std.specs.Prelude.{ℕ, suc}

abbrev pub times : {A : Type 0} → (A → A) → ℕ → A → A
times step zero x = x
times step (suc n) x = step (times step n x)

-- one that is told how many were taken before
abbrev pub steps : {A : Type 0} → (ℕ → A → A) → ℕ → A → A
steps step zero x = x
steps step (suc n) x = step n (steps step n x)
