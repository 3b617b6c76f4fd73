-- Glyphs of the worked cases, and what is read of a buffer.
use Rattle.std.specs.Prelude.{ℕ, ℤ, true, pos, List, None, map}
use Rattle.shape_common.specs.Positions.{zero_position}
use Rattle.shape_common.specs.declared.positions.GlyphPosition.{GlyphPosition}
use Rattle.shape_common.specs.declared.text_types.Direction.{Direction}
use Rattle.shape_items.specs.Buffer.{Buffer, new_buffer}
use Rattle.shape_items.specs.Items.{Item, new_item, new_properties}
use Rattle.layout_matching.specs.declared.lookup.Lookup.{Lookup}

-- a lookup over this table of a font at no size, whatever else it is
abbrev pub over : List ℕ → Lookup → Lookup
over t l = record l { table = record l.table { now = t }; scale = None }

-- the same with this `GDEF`, at these coordinates
abbrev pub varying : List ℕ → List ℕ → List ℤ → Lookup → Lookup
varying t gdef coordinates l =
    record (over t l) { gdef = record l.gdef { now = gdef }; coordinates = record l.coordinates { now = coordinates } }

-- a base, a ligature and a mark, for which bit 16 of the mask is on
abbrev pub base : ℕ → ℕ → Item
base glyph cluster = record (new_item 0 cluster) {
  glyph_id = glyph;
  mask = 16;
  properties = record new_properties { glyph_class = record { 0 = 2 } };
}

abbrev pub mark : ℕ → ℕ → Item
mark glyph cluster = record (new_item 0 cluster) {
  glyph_id = glyph;
  mask = 16;
  properties = record new_properties { glyph_class = record { 0 = 8 } };
}

-- a ligature with this number, and a mark on one of its components
abbrev pub ligature : ℕ → ℕ → ℕ → Item
ligature glyph id cluster = record (new_item 0 cluster) {
  glyph_id = glyph;
  mask = 16;
  properties = record new_properties { glyph_class = record { 0 = 4 }; ligated = true; ligature_id = id };
}

abbrev pub mark_on : ℕ → ℕ → ℕ → ℕ → Item
mark_on glyph id component cluster = record (new_item 0 cluster) {
  glyph_id = glyph;
  mask = 16;
  properties = record new_properties { glyph_class = record { 0 = 8 }; ligature_id = id; ligature_component = component };
}

-- a component of a glyph that a multiple substitution took apart; the components count from 0
abbrev pub component_of : ℕ → Item → Item
component_of component item = record item { properties = record item.properties { multiplied = true; ligature_component = component } }

-- a default ignorable
abbrev pub ignorable : ℕ → Item
ignorable cluster = record (new_item 0 cluster) { glyph_id = 9; mask = 16; properties = record new_properties { ignorable = true } }

-- a line of these items, each 600 long
abbrev pub line : Direction → List Item → Buffer
line direction items = record new_buffer {
  items = items;
  positions = map (λ _. record zero_position { x_advance = pos 600 }) items;
  direction = direction;
}

-- what is read of a buffer: advances and offsets, chains, masks
abbrev pub advances : Buffer → List (ℤ × ℤ)
advances b = map (λ (p : GlyphPosition). (p.x_advance, p.y_advance)) b.positions

abbrev pub offsets : Buffer → List (ℤ × ℤ)
offsets b = map (λ (p : GlyphPosition). (p.x_offset, p.y_offset)) b.positions

abbrev pub chains : Buffer → List ℤ
chains b = map (λ (p : GlyphPosition). p.attach_chain) b.positions

abbrev pub masks : Buffer → List ℕ
masks b = map (λ (x : Item). x.mask) b.items
