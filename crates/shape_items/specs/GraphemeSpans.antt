-- The graphemes of a list, as parts and as spans.
use Rattle.std.specs.Prelude.{ℕ, ◌+◌, Bool, true, not, List, [], ◌∷◌, map, length}
use Rattle.canonical_form.specs.Divided.{divided}
use Rattle.shape_items.specs.Items.{Item}

abbrev pub is_continuation : Item → Bool
is_continuation item = item.properties.continuation

-- the graphemes of a list: it is divided before each item after the first that is no continuation
abbrev pub graphemes : List Item → List (List Item)
graphemes items = divided is_continuation items

-- whether a grapheme ends before these items, the first of which continues it or doesn't
abbrev pub ends : List Bool → Bool
ends [] = true
ends (continuation ∷ behind) = not continuation

-- where parts of these sizes begin and end, the first of them at `start`
abbrev pub spans_from : ℕ → List ℕ → List (ℕ × ℕ)
spans_from start [] = []
spans_from start (size ∷ sizes) = (start, start + size) ∷ spans_from (start + size) sizes

-- the spans of a list's graphemes
abbrev pub grapheme_spans : List Item → List (ℕ × ℕ)
grapheme_spans items = spans_from 0 (map length (graphemes items))
