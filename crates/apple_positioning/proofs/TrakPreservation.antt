-- The table trak moves glyphs, and preserves the rest.
use Rattle.std.proofs.Common.{◌≡◌, ℕ, ◌&&◌, List, Option, length, slice_index_or}
use Rattle.std.specs.Float.{Float}
use Rattle.font_sizes.specs.declared.scales.Scale.{Scale}
use Rattle.shape_buffer.specs.Preservation.{IsClusterPreserving, IsFlagPreserving}
use Rattle.shape_buffer.specs.PositionWalks.{positions_mapped}
use Rattle.shape_common.specs.Direction.{is_horizontal}
use Rattle.shape_items.specs.Buffer.{Buffer}
use Rattle.shape_items.specs.Items.{Item, new_item}
use Rattle.kern_table.specs.Walk.{position_at, position_put}
use Rattle.apple_positioning.specs.Tracking.{first_moved, is_tracked, moved, run_spaced, run_tracked, spacing_of, start_moved, tracking_of}
use Rattle.apple_positioning.specs.declared.tracking.Spacing.{Spacing}
use Rattle.apple_positioning.proofs.PreservedLemmas.{Preserves, Preserves-count, Preserves-if, Preserves-mapped, Preserves-order, Preserves-put}
use Rattle.apple_positioning.proofs.PreservedLemmas.{Preserves-same, Preserves-then}

first-preserves : (w : Spacing) (mask : ℕ) (b : Buffer) → Preserves b (first_moved w mask b)
first-preserves w mask b =
    let item : Item = slice_index_or b.items 0 (new_item 0 0) in
    let p = moved w (position_at b 0) in
    Preserves-if (is_tracked mask item && item.properties.continuation) b (position_put 0 p b) b (Preserves-put 0 p b) (Preserves-same b)

spaced-preserves : (w : Spacing) (mask : ℕ) (b : Buffer) → Preserves b (run_spaced w mask b)
spaced-preserves w mask b =
    let there : Buffer = positions_mapped (start_moved w mask) b in
    Preserves-then b there (first_moved w mask there) (Preserves-mapped (start_moved w mask) b) (first-preserves w mask there)

pub trak-preserves : (t : List ℕ) (size : Option Scale) (points : Float) (mask : ℕ) (b : Buffer) → Preserves b (run_tracked t size points mask b)
unfolding run_tracked
trak-preserves t size points mask b =
    let along = is_horizontal b.direction in
    spaced-preserves (spacing_of size along (tracking_of t along points)) mask b

-- ---- what that is of a step of a run

pub trak-order : (t : List ℕ) (size : Option Scale) (points : Float) (mask : ℕ) → IsClusterPreserving (run_tracked t size points mask)
trak-order t size points mask b monotone = Preserves-order b (run_tracked t size points mask b) (trak-preserves t size points mask b)

pub trak-flags : (t : List ℕ) (size : Option Scale) (points : Float) (mask : ℕ) → IsFlagPreserving (run_tracked t size points mask)
trak-flags t size points mask b = (trak-preserves t size points mask b).flags

pub trak-count : (t : List ℕ) (size : Option Scale) (points : Float) (mask : ℕ) (b : Buffer)
    → length (run_tracked t size points mask b).items ≡ length b.items
trak-count t size points mask b = Preserves-count b (run_tracked t size points mask b) (trak-preserves t size points mask b)
