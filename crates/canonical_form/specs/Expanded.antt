-- The expanded list: each item becomes what its character does, which may depend on whether it stands with marks.
use Rattle.std.specs.Prelude.{ℕ, Bool, true, false, ◌&&◌, ◌||◌, not, List, [], ◌∷◌, ◌++◌}
use Rattle.canonical_form.specs.Decompositions.{Decompositions}
use Rattle.canonical_form.specs.Expansion.{choice}

abbrev pub begins_with_mark : {A : Type 0} → (A → Bool) → List A → Bool
begins_with_mark is_mark [] = false
begins_with_mark is_mark (x ∷ xs) = is_mark x

-- an item stands in a sequence with marks if a mark follows it directly, or if it is itself a mark,
-- except for the first of the list; `become` says what an item in such a sequence, or one by itself, becomes
abbrev pub expanded_from : {A B : Type 0} → (A → Bool) → (Bool → A → List B) → Bool → List A → List B
expanded_from is_mark become first [] = []
expanded_from is_mark become first (x ∷ rest) =
    become ((is_mark x && not first) || begins_with_mark is_mark rest) x ++ expanded_from is_mark become false rest

abbrev pub expanded_in_sequences : {A B : Type 0} → (A → Bool) → (Bool → A → List B) → List A → List B
expanded_in_sequences is_mark become items = expanded_from is_mark become true items

-- the choices of a text; `short` says of a character with marks, and of one by itself, if the shortest is asked for
abbrev pub expanded_text : Decompositions → (ℕ → Bool) → (ℕ → Bool) → (Bool → Bool) → List ℕ → List ℕ
expanded_text D has_glyph is_mark short text =
    expanded_in_sequences is_mark (λ with_marks. choice D has_glyph (short with_marks)) text
