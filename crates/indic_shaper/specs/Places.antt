-- A walk over a list from its beginning, with a state: each item becomes what the state, the item and those after it make of it.
use Rattle.std.specs.Prelude.{List, [], ◌∷◌}
use Rattle.shape_items.specs.Items.{Item}

abbrev pub walked : {S : Type 0} → (S → Item → List Item → Item) → (S → Item → List Item → S) → S → List Item → List Item
walked here next s [] = []
walked here next s (x ∷ xs) = here s x xs ∷ walked here next (next s x xs) xs
