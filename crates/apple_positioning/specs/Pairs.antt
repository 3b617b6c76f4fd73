-- Kerning of a run by a subtable of pairs (formats 0, 2 and 6 of `kerx`; 0, 2 and 3 of `kern`), as HarfBuzz 10.2.0 does it (`hb_kern_machine_t`). Which glyphs
-- are a pair is decided as for `kern`.
use Prim.Native.Nat.{zero}
use Rattle.std.specs.Prelude.{ℕ, suc, ℤ, pos, Bool, true, false, Option, Some, None, ◌+◌, ◌||◌, length, nat_eq, if◌then◌else◌}
use Rattle.std.specs.Ordering.{int_eq}
use Rattle.shape_common.specs.Direction.{is_horizontal}
use Rattle.shape_common.specs.Wrapping.{◌-ʷ◌}
use Rattle.shape_common.specs.declared.positions.GlyphPosition.{GlyphPosition}
use Rattle.shape_font.specs.Metrics.{half_down}
use Rattle.shape_items.specs.Buffer.{Buffer}
use Rattle.shape_items.specs.BufferClusters.{unsafe_to_break, unsafe_to_concat}
use Rattle.kern_table.specs.Walk.{is_skipped_by, item_at, left_after, moved, moved_on, position_at, position_put}
use Rattle.apple_positioning.specs.Runs.{Source, header, is_on, kerning_for, to_right, upwards, with_attachment}

-- ---- two glyphs

-- along the line half of a value, rounded down, is added to the advance of the first glyph, and the rest to that of the second, which
-- also moves by the rest
abbrev pub pair_spaced : ℕ → ℕ → ℤ → Buffer → Buffer
pair_spaced i j by b =
    let along = is_horizontal b.direction in
    let rest = by -ʷ half_down by in
    let first = position_put i (moved_on along (half_down by) (position_at b i)) b in
    position_put j (moved along rest (moved_on along rest (position_at first j))) first

-- across the line the second glyph is put where the value says
abbrev pub shifted : Bool → ℤ → GlyphPosition → GlyphPosition
shifted true by p = record p { y_offset = by }
shifted false by p = record p { x_offset = by }

abbrev pub glyph_shifted : ℕ → ℤ → Buffer → Buffer
glyph_shifted j by b = with_attachment (position_put j (shifted (is_horizontal b.direction) by (position_at b j)) b)

abbrev pub pair_put : Bool → ℕ → ℕ → ℤ → Buffer → Buffer
pair_put across i j by b = if across then glyph_shifted j by b else pair_spaced i j by b

-- a value is scaled as a number along the line, across it, too
abbrev pub scaled : Source → Bool → ℤ → ℤ
scaled s horizontal value = if horizontal then to_right s value else upwards s value

-- the two are unsafe to break, with what is between them, if their value isn't 0
abbrev pub pair_moved : Source → ℕ → ℕ → ℤ → Buffer → Buffer
pair_moved s i j value b = if int_eq value (pos 0) then b
    else unsafe_to_break i (j + 1)
    (pair_put (header s).is_cross_stream i j (scaled s (is_horizontal b.direction) value) b)

abbrev pub pair_kerned : Source → ℕ → ℕ → Buffer → Buffer
pair_kerned s i j b =
    pair_moved s i j (kerning_for s (item_at b.items i).glyph_id (item_at b.items j).glyph_id) b

-- ---- a run, from the first glyph to the last: each glyph with the one that waits

abbrev pub kerned_with : Source → ℕ → Option ℕ → Buffer → Buffer
kerned_with s j None b = b
kerned_with s j (Some i) b = pair_kerned s i j b

abbrev pub kerned_at : Source → ℕ → Option ℕ → Buffer → Buffer
kerned_at s j left b =
    if is_skipped_by left (item_at b.items j) then b
    else (if is_on s (item_at b.items j) then kerned_with s j left b else b)

-- a buffer, and the glyph that waits
pub record Kerned : Type 0 where
  pub buffer : Buffer
  pub left : Option ℕ

-- after the first glyphs
abbrev pub kerned_to : Source → ℕ → Buffer → Kerned
kerned_to s zero b = record { buffer = b; left = None }
kerned_to s (suc j) b = let before = kerned_to s j b in record {
  buffer = kerned_at s j before.left before.buffer;
  left = left_after s.mask j before.left before.buffer.items;
}

-- all glyphs, which are unsafe to concat first
unfoldable pub kerned : Source → Buffer → Buffer
kerned s b = (kerned_to s (length b.items) (unsafe_to_concat 0 (length b.items) b)).buffer

-- ---- a subtable of pairs does nothing if kerning is off everywhere, or if it says that the glyphs are processed from the last to the
-- ---- first

abbrev pub run_kerned : Source → Buffer → Buffer
run_kerned s b = if nat_eq s.mask 0 || (header s).is_backward then b else kerned s b
