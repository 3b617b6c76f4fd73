-- The words of a line.
use Rattle.std.specs.Prelude.{ℕ, List, [], ◌∷◌, ◌==◌, Bool, true, false, filter}
use Rattle.std.specs.List.{slice_split}

abbrev pub is_some_text : List ℕ → Bool
is_some_text [] = false
is_some_text (_ ∷ _) = true

-- what stands between spaces (32), if it is not empty
abbrev pub words : List ℕ → List (List ℕ)
words line = filter is_some_text (slice_split (λ b. b == 32) line)
