-- The whole of stretching: in the order of the text tiles are put over their words, and marked unsafe to break with them.
use Rattle.std.specs.Prelude.{Bool, true, false, None, List, [], ◌∷◌, length, map, reverse, nat_lt, if◌then◌else◌}
use Rattle.std.specs.List.{list_any}
use Rattle.shape_common.specs.Face.{FaceMeaning}
use Rattle.shape_common.specs.declared.positions.GlyphPosition.{GlyphPosition}
use Rattle.shape_common.specs.declared.text_types.Direction.{Direction}
use Rattle.shape_common.specs.declared.text_types.Direction.TheVariants.{RightToLeft}
use Rattle.shape_items.specs.Buffer.{Buffer, limit_of}
use Rattle.shape_items.specs.Items.{Item}
use Rattle.arabic_stretching.specs.Copying.{stretched_from}
use Rattle.arabic_stretching.specs.Tiles.{is_tile, spans_marked}
use Rattle.arabic_stretching.specs.declared.fitting.Glyph.{Glyph}

-- each item with its position
abbrev pub glyphs_from : List Item → List GlyphPosition → List Glyph
glyphs_from [] positions = []
glyphs_from (item ∷ items) [] = []
glyphs_from (item ∷ items) (position ∷ positions) =
    record { info = item; position = position } ∷ glyphs_from items positions

abbrev pub glyph_info : Glyph → Item
glyph_info g = g.info

abbrev pub glyph_position : Glyph → GlyphPosition
glyph_position g = g.position

abbrev pub laid : List Glyph → Buffer → Buffer
laid gs b = record b { items = map glyph_info gs; positions = map glyph_position gs }

-- a text in its order with its tiles over their words
abbrev pub laid_out : FaceMeaning → Bool → Buffer → Buffer
laid_out face right_to_left b = laid (stretched_from face right_to_left None (glyphs_from b.items b.positions)) b

abbrev pub is_leftward : Direction → Bool
is_leftward RightToLeft = true
is_leftward _ = false

-- glyphs from right to left in the order of the text, and back
abbrev pub turned : Bool → Buffer → Buffer
turned right_to_left b =
    if right_to_left then record b { items = reverse b.items; positions = reverse b.positions } else b

-- they are marked unsafe to break, each run of tiles with its word; if that makes more glyphs than the run may have, all stays
abbrev pub laid_within : FaceMeaning → Bool → Buffer → Buffer
laid_within face right_to_left b = let laid = laid_out face right_to_left b in
    (if nat_lt (limit_of b) (length laid.items) then b else spans_marked laid)

abbrev pub stretched_in : FaceMeaning → Bool → Buffer → Buffer
stretched_in face right_to_left b = turned right_to_left (laid_within face right_to_left (turned right_to_left b))

-- nothing changes without tiles
abbrev pub stretched : FaceMeaning → Buffer → Buffer
stretched face b = if list_any is_tile b.items then stretched_in face (is_leftward b.direction) b else b
