-- Zeros in place of each position.
use Rattle.std.proofs.Common.{◌≡◌, List, [], ◌∷◌, length, replicate, refl, ap, arith}
use Rattle.shape_items.specs.Items.{Item}
use Rattle.shape_common.specs.Positions.{zero_position}
use Rattle.shape_common.specs.declared.positions.GlyphPosition.{GlyphPosition}
use Rattle.shape_buffer.specs.PositionWalks.{positions_over}

-- they are as many as the items
pub zeros_over : (items : List Item) (positions : List GlyphPosition) → length positions ≡ length items
    → replicate (length items) zero_position ≡ positions_over (λ _ _. zero_position) items positions
zeros_over [] positions many = refl
zeros_over (x ∷ items) [] many = absurd (omega (arith, many))
zeros_over (x ∷ items) (p ∷ positions) many = ap (λ (ps : List GlyphPosition). zero_position ∷ ps) (zeros_over items positions (omega (arith, many)))

-- and none if there is no position
pub nothing_over : (items : List Item) (positions : List GlyphPosition) → length positions ≡ 0
    → positions ≡ positions_over (λ _ _. zero_position) items positions
nothing_over [] [] none = refl
nothing_over [] (p ∷ positions) none = absurd (omega (arith, none))
nothing_over (x ∷ items) [] none = refl
nothing_over (x ∷ items) (p ∷ positions) none = absurd (omega (arith, none))
