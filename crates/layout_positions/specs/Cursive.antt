-- Cursive attachment (OpenType, `GPOS`, lookup type 3).
use Rattle.std.specs.Prelude.{ℕ, ℤ, List, Bool, true, false, Option, Some, None, ◌+◌, ◌*◌, nat_lt, if◌then◌else◌}
use Rattle.std.specs.Option.{option_map_or, option_and_then}
use Rattle.shape_common.specs.Direction.{is_horizontal}
use Rattle.shape_common.specs.Wrapping.{◌+ʷ◌, ◌-ʷ◌}
use Rattle.shape_common.specs.declared.positions.GlyphPosition.{GlyphPosition}
use Rattle.shape_common.specs.declared.text_types.Direction.{Direction}
use Rattle.shape_common.specs.declared.text_types.Direction.TheVariants.{Invalid, LeftToRight, RightToLeft, TopToBottom, BottomToTop}
use Rattle.shape_font.specs.Bytes.{u16_of, fitting}
use Rattle.shape_items.specs.Buffer.{Buffer}
use Rattle.layout_matching.specs.Skipping.{nth, shares}
use Rattle.layout_matching.specs.declared.lookup.Lookup.{Lookup}
use Rattle.layout_positions.specs.Anchors.{anchor_by, number_at}
use Rattle.layout_positions.specs.Edits.{position_changed, broken, concat_marked}
use Rattle.layout_positions.specs.Lookups.{Applied, unapplied, glyph_before, start_before}
use Rattle.layout_positions.specs.Turning.{attached, links_turned}
use Rattle.layout_positions.specs.Sizes.{apart, footing, placed}
use Rattle.layout_positions.specs.declared.anchors.Anchor.{Anchor}

-- for each glyph the anchor where it is entered, and the one where it is left
abbrev pub has_anchors : List ℕ → ℕ → ℕ → Bool
has_anchors t start number = nat_lt number (fitting t (u16_of t (start + 4)) (start + 6) 4)

abbrev pub entry_in : Lookup → ℕ → ℕ → Option Anchor
entry_in l start number = if has_anchors l.table.now start number then anchor_by l start (start + 6 + 4 * number) else None

abbrev pub exit_in : Lookup → ℕ → ℕ → Option Anchor
exit_in l start number = if has_anchors l.table.now start number then anchor_by l start (start + 8 + 4 * number) else None

abbrev pub entry_of : Lookup → ℕ → ℕ → Option Anchor
entry_of l start glyph = option_and_then (entry_in l start) (number_at l.table.now start (start + 2) glyph)

abbrev pub exit_of : Lookup → ℕ → ℕ → Option Anchor
exit_of l start glyph = option_and_then (exit_in l start) (number_at l.table.now start (start + 2) glyph)

-- ---- along the line: the pen leaves the first glyph at its exit, where the second one is entered

-- the advance reaches up to the anchor
abbrev pub to_x : Anchor → GlyphPosition → GlyphPosition
to_x a p = record p { x_advance = a.x +ʷ p.x_offset }

abbrev pub to_y : Anchor → GlyphPosition → GlyphPosition
to_y a p = record p { y_advance = a.y +ʷ p.y_offset }

-- the glyph begins at the anchor
abbrev pub from_x : Anchor → GlyphPosition → GlyphPosition
from_x a p = let d = a.x +ʷ p.x_offset in record p { x_advance = p.x_advance -ʷ d; x_offset = p.x_offset -ʷ d }

abbrev pub from_y : Anchor → GlyphPosition → GlyphPosition
from_y a p = let d = a.y +ʷ p.y_offset in record p { y_advance = p.y_advance -ʷ d; y_offset = p.y_offset -ʷ d }

-- the glyph that comes first in the list
abbrev pub left_at : Direction → Anchor → GlyphPosition → GlyphPosition
left_at Invalid exit p = p
left_at LeftToRight exit p = to_x exit p
left_at RightToLeft exit p = from_x exit p
left_at TopToBottom exit p = to_y exit p
left_at BottomToTop exit p = from_y exit p

-- the one after it
abbrev pub entered_at : Direction → Anchor → GlyphPosition → GlyphPosition
entered_at Invalid entry p = p
entered_at LeftToRight entry p = from_x entry p
entered_at RightToLeft entry p = to_x entry p
entered_at TopToBottom entry p = from_y entry p
entered_at BottomToTop entry p = record p { y_advance = entry.y }

-- ---- across the line: one of the two follows the other, so that the anchors meet

abbrev pub gap_across : Bool → Anchor → Anchor → ℤ
gap_across true a b = a.y -ʷ b.y
gap_across false a b = a.x -ʷ b.x

-- by the flag RIGHT_TO_LEFT the first glyph follows the second one, else the second one the first
abbrev pub joined_across : Bool → ℕ → ℕ → Anchor → Anchor → Buffer → Buffer
joined_across true i j entry exit b = attached i j (gap_across (is_horizontal b.direction) entry exit) b
joined_across false i j entry exit b = attached j i (gap_across (is_horizontal b.direction) exit entry) b

abbrev pub joined_along : ℕ → ℕ → Anchor → Anchor → Buffer → Buffer
joined_along i j entry exit b =
    position_changed (entered_at b.direction entry) j (position_changed (left_at b.direction exit) i (broken i (j + 1) b))

-- at a size of the font the anchors are rounded along the line, and across it what is between them
abbrev pub cursive_put : Lookup → ℕ → ℕ → Anchor → Buffer → Anchor → Applied
cursive_put l i j entry b exit = record {
  buffer = joined_across (shares l.flags 1) i j (apart l entry exit) (footing l exit) (joined_along i j (placed l entry) (placed l exit) b);
  next = Some (j + 1);
}

abbrev pub cursive_with : Lookup → ℕ → ℕ → Anchor → Buffer → ℕ → Applied
cursive_with l start j entry b i =
    option_map_or (cursive_put l i j entry b) (exit_of l start (nth b.items i).glyph_id) (unapplied (concat_marked i (j + 1) b))

abbrev pub cursive_at : Lookup → ℕ → ℕ → Buffer → Anchor → Applied
cursive_at l start j b entry = option_map_or (cursive_with l start j entry b) (glyph_before l b.items j)
    (unapplied (concat_marked (start_before l b.items j) (j + 1) b))

-- the glyph at a place and the one before it
abbrev pub cursive_applied : Lookup → ℕ → ℕ → Buffer → Applied
cursive_applied l start j b =
    option_map_or (cursive_at l start j b) (entry_of l start (nth b.items j).glyph_id) (unapplied b)

-- ---- how many links of chains that turns round

abbrev pub links_across : Bool → ℕ → ℕ → Buffer → ℕ
links_across true i j b = links_turned i j b
links_across false i j b = links_turned j i b

abbrev pub links_put : Lookup → ℕ → ℕ → Anchor → Buffer → Anchor → ℕ
links_put l i j entry b exit = links_across (shares l.flags 1) i j (joined_along i j (placed l entry) (placed l exit) b)

abbrev pub links_with : Lookup → ℕ → ℕ → Anchor → Buffer → ℕ → ℕ
links_with l start j entry b i =
    option_map_or (links_put l i j entry b) (exit_of l start (nth b.items i).glyph_id) 0

abbrev pub links_at : Lookup → ℕ → ℕ → Buffer → Anchor → ℕ
links_at l start j b entry = option_map_or (links_with l start j entry b) (glyph_before l b.items j) 0

abbrev pub cursive_links : Lookup → ℕ → ℕ → Buffer → ℕ
cursive_links l start j b = option_map_or (links_at l start j b) (entry_of l start (nth b.items j).glyph_id) 0
