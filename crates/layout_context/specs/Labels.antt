-- Labels that items carry while the records of a rule are applied: each glyph that the rule matches has one. What a lookup puts in right
-- after such a glyph gets one, too; and where items go, they are taken to be the next ones that have a label.
use Prim.Native.Nat.{zero}
use Rattle.std.specs.Prelude.{ℕ, suc, Bool, true, false, List, [], ◌∷◌, ◌++◌, replicate}

-- the places of the items that have a label, where the first item stands at place `i`
abbrev pub labelled_from : ℕ → List Bool → List ℕ
labelled_from i [] = []
labelled_from i (true ∷ labels) = i ∷ labelled_from (suc i) labels
labelled_from i (false ∷ labels) = labelled_from (suc i) labels

abbrev pub labelled : List Bool → List ℕ
labelled = labelled_from 0

-- the items before a glyph that has a label, that glyph, and those behind it
abbrev pub around : List Bool → List Bool → List Bool
around before behind = before ++ true ∷ behind

-- `n` items more, right behind the glyph
abbrev pub with_more : ℕ → List Bool → List Bool
with_more n behind = replicate n true ++ behind

-- without the first `n` of those behind it that have a label
abbrev pub without_first : ℕ → List Bool → List Bool
without_first zero labels = labels
without_first (suc n) [] = []
without_first (suc n) (true ∷ labels) = without_first n labels
without_first (suc n) (false ∷ labels) = false ∷ without_first (suc n) labels
