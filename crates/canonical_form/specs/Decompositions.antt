-- What is known of characters, by which texts are decomposed.
use Rattle.std.specs.Prelude.{ℕ, Option}

pub record Decompositions : Type 0 where
  -- into which two characters each splits: its decomposition mapping (The Unicode Standard, D62), one step at a time
  pub split : ℕ → Option (ℕ × ℕ)
  -- a height that falls along splits
  pub height : ℕ → ℕ
  -- the combining class of each (D104)
  pub ccc : ℕ → ℕ
