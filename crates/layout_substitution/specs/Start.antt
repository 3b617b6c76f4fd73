-- The beginning of substitution: what GDEF says of each glyph, before any lookup.
use Rattle.std.specs.Prelude.{ℕ, List, false}
use Rattle.shape_buffer.specs.Walks.{items_mapped}
use Rattle.shape_items.specs.Buffer.{Buffer}
use Rattle.shape_items.specs.Items.{Item}
use Rattle.layout_tables.specs.Gdef.{glyph_props}
use Rattle.layout_substitution.specs.Replaced.{with_class}

-- a glyph that no lookup has made, and that belongs to no ligature
abbrev pub untouched : Item → Item
untouched item = record item {
  properties = record item.properties {
    substituted = false;
    ligated = false;
    multiplied = false;
    ligature_id = 0;
    ligature_component = 0;
    number_of_components = 1;
  };
}

-- its class, and its mark attachment class, both 0 if GDEF has no classes of glyphs
abbrev pub begun_item : List ℕ → Item → Item
begun_item gdef item = untouched (with_class (glyph_props gdef item.glyph_id) item)

unfoldable pub begun : List ℕ → Buffer → Buffer
begun gdef b = items_mapped (begun_item gdef) b
