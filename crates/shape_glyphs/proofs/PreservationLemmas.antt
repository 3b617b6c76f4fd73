-- Steps that preserve the order of clusters, the flags of glyphs and the number of positions.
use Rattle.std.proofs.Common.{◌≡◌, ℕ, List, [], ◌∷◌, map, refl, inl}
use Rattle.shape_items.specs.Items.{Item}
use Rattle.shape_buffer.specs.Preservation.{IsClusterPreserving, IsFlagPreserving}
use Rattle.shape_items.specs.PreservesFlags.{some_has}
use Rattle.shape_buffer.specs.PositionWalks.{positions_mapped}
use Rattle.shape_common.specs.declared.positions.GlyphPosition.{GlyphPosition}
use Rattle.shape_buffer.proofs.Loops.PositionWalkLemmas.{length-positions_over}
use Rattle.shape_buffer.proofs.Steps.PreservationLemmas.{PreservesClusters-equal}
use Rattle.shape_glyphs.specs.StepEffects.{PreservesLengths}

pub some_has-map : (f : Item → Item) → ((x : Item) → (f x).mask ≡ x.mask) → (flag : ℕ) (xs : List Item)
    → some_has flag (map f xs) ≡ some_has flag xs
some_has-map f same flag [] = refl
some_has-map f same flag (x ∷ xs) = rw (same x, some_has-map f same flag xs) refl

-- ---- clusters

pub order-positions_mapped : (f : Item → GlyphPosition → GlyphPosition) → IsClusterPreserving (positions_mapped f)
unfolding positions_mapped
order-positions_mapped f b monotone = record { clusters = PreservesClusters-equal _ _ refl; direction = refl; flags = refl; level = refl }

-- ---- flags

pub flags-positions_mapped : (f : Item → GlyphPosition → GlyphPosition) → IsFlagPreserving (positions_mapped f)
unfolding positions_mapped
flags-positions_mapped f b = record { flags = refl; stays_set = λ set. set; none_new = λ flag defined some. inl some }

-- ---- the number of positions

pub as_many-positions_mapped : (f : Item → GlyphPosition → GlyphPosition) → PreservesLengths (positions_mapped f)
unfolding positions_mapped
as_many-positions_mapped f b as_many = length-positions_over f b.items b.positions as_many
