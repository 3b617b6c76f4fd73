-- A list in storage with a gap.
use Rattle.std.specs.Prelude.{ℕ, ◌+◌, List, ◌++◌, take, drop}

-- the list that storage holds round a gap of `room` places, which begins at `at`
abbrev pub around : {T : Type 0} → ℕ → ℕ → List T → List T
around at room stored = take at stored ++ drop (at + room) stored
