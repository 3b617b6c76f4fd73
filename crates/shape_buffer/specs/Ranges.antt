-- Ranges of a list.
use Rattle.std.specs.Prelude.{ℕ, List, ◌++◌, take, drop, reverse, slice_range}

-- the part from place `start` up to `end` reversed
abbrev pub reversed_range : {A : Type 0} → ℕ → ℕ → List A → List A
reversed_range start end xs = take start xs ++ (reverse (slice_range xs start end) ++ drop end xs)
