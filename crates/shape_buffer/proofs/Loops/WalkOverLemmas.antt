-- Walks over the items of a buffer that write each of them.
use Rattle.std.proofs.Common.{◌≡◌, ℕ, ◌+◌, ◌<◌, ◌≤◌, List, [], ◌∷◌, ◌++◌, length, get_or, take, drop, set, refl, ap, sym, ◌∙◌, arith, append_assoc}
use Rattle.std.proofs.lemmas.List.{take-append-drop, take_more_set, drop-set-lt, drop_more, drop_all}
use Rattle.shape_items.specs.Items.{Item}
use Rattle.shape_items.specs.Buffer.{Buffer}

-- the items from place i on are what `rest` makes of them
abbrev pub with_rest : (List Item → List Item) → ℕ → Buffer → Buffer
with_rest rest i b = record b { items = take i b.items ++ rest (drop i b.items) }

-- one item is written, and what is left to do makes the same of the buffer
pub walk_step : (rest next : List Item → List Item) (i : ℕ) (b : Buffer) (x y : Item) → i < length b.items → x ≡ get_or b.items i x
    → rest (x ∷ drop (i + 1) b.items) ≡ y ∷ next (drop (i + 1) b.items)
    → with_rest next (i + 1) (record b { items = set b.items i y }) ≡ with_rest rest i b
walk_step rest next i b x y within is writes =
    let here : drop i b.items ≡ x ∷ drop (i + 1) b.items = drop_more b.items i x within ∙ ap (λ z. z ∷ drop (i + 1) b.items) (sym is) in
    ap (λ (items : List Item). record b { items = items })
    (rw (take_more_set b.items i y within, drop-set-lt (i + 1) b.items i y (omega arith), append_assoc, here, writes) refl)

-- nothing is left to do
pub walk_end : (rest : List Item → List Item) (i : ℕ) (b : Buffer) → length b.items ≤ i → rest [] ≡ [] → with_rest rest i b ≡ b
walk_end rest i b over none =
    ap (λ (items : List Item). record b { items = items })
    (let left = drop_all i b.items over in rw (left, none, ← left) (take-append-drop i b.items))
