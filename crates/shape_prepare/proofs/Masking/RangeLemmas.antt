-- A function over a range of a list, item by item.
use Rattle.std.proofs.Common.{◌≡◌, ℕ, zero, suc, ◌+◌, ◌-◌, ◌<◌, ◌≤◌, List, [], ◌∷◌, length, get_or, set, refl, ap, arith}
use Rattle.std.proofs.lemmas.List.{take-append-drop}
use Rattle.std.proofs.lemmas.List.Edits.{map_over_more}
use Rattle.shape_items.specs.Items.{Item}
use Rattle.shape_items.specs.Clusters.{map_range}

-- over no item yet
pub map_range_none : (f : Item → Item) (from : ℕ) (xs : List Item) → map_range f from from xs ≡ xs
map_range_none f from xs =
    let none : from - from ≡ 0 = omega arith in
    rw none (take-append-drop from xs)

-- over one more
pub map_range_more : (f : Item → Item) (from i : ℕ) (xs : List Item) (x : Item) → from ≤ i → i < length xs
    → x ≡ get_or (map_range f from i xs) i x
    → set (map_range f from i xs) i (f x) ≡ map_range f from (i + 1) xs
map_range_more f zero i xs x le lt is =
    let whole : i - 0 ≡ i = omega arith in
    let more : i + 1 - 0 ≡ i + 1 = omega arith in
    rw (whole, more) (map_over_more f xs _ i x lt refl (rw whole at is))
map_range_more f (suc from) i [] x le lt is = absurd (omega (arith, lt))
map_range_more f (suc from) zero (y ∷ xs) x le lt is = absurd (omega (arith, le))
map_range_more f (suc from) (suc i) (y ∷ xs) x le lt is =
    let next : suc i + 1 ≡ suc (i + 1) = omega arith in
    let part : suc i - suc from ≡ i - from = omega arith in
    let longer : suc (i + 1) - suc from ≡ i + 1 - from = omega arith in
    rw (next, part, longer) (ap (λ (zs : List Item). y ∷ zs) (map_range_more f from i xs x (omega arith) (omega arith) (rw part at is)))
