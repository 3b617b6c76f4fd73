-- what each step of kerning preserves, the whole preserves
use Prim.Native.Nat.{zero}
use Rattle.std.proofs.Common.{ℕ, suc, ℤ, ◌+◌, Bool, true, false, if◌then◌else◌, List, length, Option, Some, None, nat_eq}
use Rattle.std.specs.Prelude.{pos}
use Rattle.std.specs.Ordering.{int_eq}
use Rattle.shape_common.specs.Wrapping.{◌-ʷ◌}
use Rattle.std.specs.Int.RustNames.{bit_and}
use Rattle.shape_items.specs.Buffer.{Buffer}
use Rattle.shape_items.specs.BufferClusters.{unsafe_to_break, unsafe_to_concat}
use Rattle.shape_common.specs.Direction.{is_horizontal}
use Rattle.shape_common.specs.declared.positions.GlyphPosition.{GlyphPosition}
use Rattle.shape_font.specs.Metrics.{half_down}
use Rattle.font_sizes.specs.declared.scales.Scale.{Scale}
use Rattle.kern_table.specs.Pairs.{value_of}
use Rattle.kern_table.specs.Walk.{sized, moved_on, moved, position_at, position_put, pair_moved}
use Rattle.kern_table.specs.Walk.{item_at, is_skipped_by, kerned_with, kerned_at, kerned_to, kerned}

module _ (P : Buffer → Buffer → Type 0) (same : (b : Buffer) → P b b) (after : (a b c : Buffer) → P a b → P b c → P a c)
    (by_break : (start end : ℕ) (b : Buffer) → P b (unsafe_to_break start end b))
    (by_concat : (end : ℕ) (b : Buffer) → P b (unsafe_to_concat 0 end b))
    (by_position : (i : ℕ) (p : GlyphPosition) (b : Buffer) → P b (position_put i p b)) where
  step-if : (t : Bool) (b c d : Buffer) → P b c → P b d → P b (if t then c else d)
  step-if true b c d x y = x
  step-if false b c d x y = y

  pub step-pair_moved : (scale : Option Scale) (i j : ℕ) (value : ℤ) (b : Buffer) → P b (pair_moved scale i j value b)
  step-pair_moved scale i j value b =
      let along = is_horizontal b.direction in
      let by = sized scale along value in
      let rest = by -ʷ half_down by in
      let p = moved_on along (half_down by) (position_at b i) in
      let first = position_put i p b in
      let q = moved along rest (moved_on along rest (position_at first j)) in
      let second = position_put j q first in
      let third = unsafe_to_break i (j + 1) second in
      step-if (int_eq value (pos 0)) b b third (same b)
      (after b first third (by_position i p b) (after first second third (by_position j q first) (by_break i (j + 1) second)))

  step-with : (scale : Option Scale) (t : List ℕ) (start j : ℕ) (left : Option ℕ) (b : Buffer) → P b (kerned_with scale t start j left b)
  step-with scale t start j None b = same b
  step-with scale t start j (Some i) b = step-pair_moved scale i j (value_of t start (item_at b.items i).glyph_id (item_at b.items j).glyph_id) b

  step-at : (scale : Option Scale) (t : List ℕ) (start mask j : ℕ) (left : Option ℕ) (b : Buffer) → P b (kerned_at scale t start mask j left b)
  step-at scale t start mask j left b =
      let item = item_at b.items j in
      let off = nat_eq (bit_and item.mask mask) 0 in
      let kerning = kerned_with scale t start j left b in
      step-if (is_skipped_by left item) b b (if off then b else kerning) (same b)
      (step-if off b b kerning (same b) (step-with scale t start j left b))

  step-to : (scale : Option Scale) (t : List ℕ) (start mask j : ℕ) (b : Buffer) → P b (kerned_to scale t start mask j b).buffer
  step-to scale t start mask zero b = same b
  step-to scale t start mask (suc j) b =
      let before = kerned_to scale t start mask j b in
      after b before.buffer (kerned_at scale t start mask j before.left before.buffer) (step-to scale t start mask j b)
      (step-at scale t start mask j before.left before.buffer)

  pub step-kerned : (scale : Option Scale) (t : List ℕ) (start mask : ℕ) (b : Buffer) → P b (kerned scale t start mask b)
  step-kerned scale t start mask b =
      let n = length b.items in
      let marked = unsafe_to_concat 0 n b in
      after b marked (kerned_to scale t start mask n marked).buffer (by_concat n b) (step-to scale t start mask n marked)
