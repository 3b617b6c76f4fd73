-- kerning of a buffer by one subtable of the table
use Prim.Native.Nat.{zero}
use Rattle.std.specs.Prelude.{ℕ, suc, ℤ, pos, List, Bool, true, false, Option, Some, None, is_some, ◌+◌, ◌==◌, ◌&&◌, ◌||◌, length, nat_eq, slice_set}
use Rattle.std.specs.Prelude.{slice_index_or, if◌then◌else◌}
use Rattle.std.specs.Int.RustNames.{bit_and}
use Rattle.std.specs.Ordering.{int_eq}
use Rattle.shape_items.specs.Buffer.{Buffer}
use Rattle.shape_items.specs.BufferClusters.{unsafe_to_break, unsafe_to_concat}
use Rattle.shape_common.specs.FlagNames.{MARK}
use Rattle.shape_items.specs.Items.{Item, new_item, is_ignorable_item}
use Rattle.shape_common.specs.Positions.{zero_position}
use Rattle.shape_common.specs.Direction.{is_horizontal}
use Rattle.shape_common.specs.Wrapping.{◌+ʷ◌, ◌-ʷ◌}
use Rattle.shape_common.specs.declared.positions.GlyphPosition.{GlyphPosition}
use Rattle.shape_font.specs.Metrics.{half_down}
use Rattle.font_sizes.specs.Scales.{across, up}
use Rattle.font_sizes.specs.declared.scales.Scale.{Scale}
use Rattle.kern_table.specs.Pairs.{value_of}

-- a glyph between two others that doesn't part them: a mark, or one of a default ignorable
abbrev pub is_skipped : Item → Bool
is_skipped item = (bit_and item.properties.glyph_class.0 MARK == MARK) || is_ignorable_item item

abbrev pub moved_on : Bool → ℤ → GlyphPosition → GlyphPosition
moved_on true by p = record p { x_advance = p.x_advance +ʷ by }
moved_on false by p = record p { y_advance = p.y_advance +ʷ by }

abbrev pub moved : Bool → ℤ → GlyphPosition → GlyphPosition
moved true by p = record p { x_offset = p.x_offset +ʷ by }
moved false by p = record p { y_offset = p.y_offset +ʷ by }

abbrev pub position_at : Buffer → ℕ → GlyphPosition
position_at b i = slice_index_or b.positions i zero_position

abbrev pub position_put : ℕ → GlyphPosition → Buffer → Buffer
position_put i p b = record b { positions = slice_set b.positions i p }

-- a value along a line of this kind, at a size of the font
abbrev pub sized : Option Scale → Bool → ℤ → ℤ
sized scale horizontal value = if horizontal then across scale value else up scale value

-- half of a value, rounded down, is added to the advance of the first glyph, and the rest to that of the second, which
-- also moves by the rest
abbrev pub pair_moved : Option Scale → ℕ → ℕ → ℤ → Buffer → Buffer
pair_moved scale i j value b =
    let along = is_horizontal b.direction in
    let by = sized scale along value in
    let rest = by -ʷ half_down by in
    let first = position_put i (moved_on along (half_down by) (position_at b i)) b in
    (if int_eq value (pos 0) then b
    else unsafe_to_break i (j + 1) (position_put j (moved along rest (moved_on along rest (position_at first j))) first))

abbrev pub item_at : List Item → ℕ → Item
item_at items i = slice_index_or items i (new_item 0 0)

abbrev pub pair_kerned : Option Scale → List ℕ → ℕ → ℕ → ℕ → Buffer → Buffer
pair_kerned scale t start i j b = pair_moved scale i j (value_of t start (item_at b.items i).glyph_id (item_at b.items j).glyph_id) b

-- a mark or a default ignorable is skipped only if a glyph waits at its left
abbrev pub is_skipped_by : Option ℕ → Item → Bool
is_skipped_by left item = is_some left && is_skipped item

-- which glyph waits after glyph `j`, if `left` waited before it: the same if `j` is skipped, none if kerning is off for
-- `j`, else `j`
abbrev pub left_after : ℕ → ℕ → Option ℕ → List Item → Option ℕ
left_after mask j left items =
    if is_skipped_by left (item_at items j) then left
    else (if nat_eq (bit_and (item_at items j).mask mask) 0 then None else Some j)

-- glyph `j` with the one that waits
abbrev pub kerned_with : Option Scale → List ℕ → ℕ → ℕ → Option ℕ → Buffer → Buffer
kerned_with scale t start j None b = b
kerned_with scale t start j (Some i) b = pair_kerned scale t start i j b

abbrev pub kerned_at : Option Scale → List ℕ → ℕ → ℕ → ℕ → Option ℕ → Buffer → Buffer
kerned_at scale t start mask j left b =
    if is_skipped_by left (item_at b.items j) then b
    else (if nat_eq (bit_and (item_at b.items j).mask mask) 0 then b else kerned_with scale t start j left b)

-- a buffer, and the glyph that waits
pub record Kerned : Type 0 where
  pub buffer : Buffer
  pub left : Option ℕ

-- after the first glyphs
abbrev pub kerned_to : Option Scale → List ℕ → ℕ → ℕ → ℕ → Buffer → Kerned
kerned_to scale t start mask zero b = record { buffer = b; left = None }
kerned_to scale t start mask (suc j) b = let before = kerned_to scale t start mask j b in record {
  buffer = kerned_at scale t start mask j before.left before.buffer;
  left = left_after mask j before.left before.buffer.items;
}

-- all glyphs, which are unsafe to concat first
abbrev pub kerned : Option Scale → List ℕ → ℕ → ℕ → Buffer → Buffer
kerned scale t start mask b = (kerned_to scale t start mask (length b.items) (unsafe_to_concat 0 (length b.items) b)).buffer
