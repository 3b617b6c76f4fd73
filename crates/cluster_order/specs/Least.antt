-- Clusters that each become the least one from it on.
use Rattle.std.specs.Prelude.{ℕ, List, [], ◌∷◌, min}

-- the lesser of a cluster and the first of those behind it
abbrev pub least_with : ℕ → List ℕ → ℕ
least_with x [] = x
least_with x (y ∷ ys) = min x y

-- for each cluster the least one from it on
abbrev pub least_ahead : List ℕ → List ℕ
least_ahead [] = []
least_ahead (x ∷ xs) = least_with x (least_ahead xs) ∷ least_ahead xs
