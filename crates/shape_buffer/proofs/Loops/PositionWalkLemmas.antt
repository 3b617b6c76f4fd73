-- Loops that write each position from its item and from itself.
use Rattle.std.proofs.Common.{zero, suc, ◌≡◌, ◌+◌, ◌<◌, ℕ, List, ◌++◌, [], ◌∷◌, take, drop, set, length, get_or, arith, refl, ap}
use Rattle.shape_items.specs.Items.{Item}
use Rattle.shape_buffer.specs.PositionWalks.{positions_over}
use Rattle.shape_common.specs.declared.positions.GlyphPosition.{GlyphPosition}

-- one more position is written
pub positions_over_more : (f : Item → GlyphPosition → GlyphPosition) (items : List Item) (old : List GlyphPosition) (i : ℕ) (item : Item)
    (position : GlyphPosition)
    → i < length items → length old ≡ length items
    → set (positions_over f (take i items) (take i old) ++ drop i old) i
    (f (get_or items i item) (get_or (positions_over f (take i items) (take i old) ++ drop i old) i position))
    ≡ positions_over f (take (i + 1) items) (take (i + 1) old) ++ drop (i + 1) old
positions_over_more f [] old i item position lt as_many = absurd (omega arith)
positions_over_more f (x ∷ items) [] i item position lt as_many = absurd (omega (arith, as_many))
positions_over_more f (x ∷ items) (p ∷ old) zero item position lt as_many = refl
positions_over_more f (x ∷ items) (p ∷ old) (suc i) item position lt as_many =
    let rest = positions_over_more f items old i item position (omega arith) (omega (arith, as_many)) in
    let more : suc i + 1 ≡ suc (i + 1) = omega arith in
    rw more (ap (λ (zs : List GlyphPosition). f x p ∷ zs) rest)

-- as many as there were, beside as many items
pub length-positions_over : (f : Item → GlyphPosition → GlyphPosition) (items : List Item) (old : List GlyphPosition)
    → length old ≡ length items → length (positions_over f items old) ≡ length items
length-positions_over f [] old as_many = refl
length-positions_over f (x ∷ items) [] as_many = absurd (omega (arith, as_many))
length-positions_over f (x ∷ items) (p ∷ old) as_many = ap suc (length-positions_over f items old (omega (arith, as_many)))
