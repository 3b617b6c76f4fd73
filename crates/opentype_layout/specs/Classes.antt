-- glyphs as the lookups find them
use Rattle.std.specs.Prelude.{ℕ, List, false, ◌≡◌, ◌<◌, ◌/◌, length, slice_index}
use Rattle.std.specs.Int.RustNames.{bit_and}
use Rattle.shape_items.specs.Buffer.{Buffer}
use Rattle.shape_items.specs.Items.{Item}
use Rattle.shape_buffer.specs.Walks.{items_mapped}
use Rattle.layout_tables.specs.Gdef.{glyph_props}

-- no lookup has made the glyph, and it belongs to no ligature; its class, and for a mark the class of attachment, are those
-- that the font gives it
abbrev pub begun : List ℕ → Item → Item
begun gdef item = let props = glyph_props gdef item.glyph_id in record item {
  properties = record item.properties {
    glyph_class = record { 0 = bit_and props 14 };
    mark_attachment_class = props / 256;
    substituted = false;
    ligated = false;
    multiplied = false;
    ligature_id = 0;
    ligature_component = 0;
    number_of_components = 1;
  };
}

unfoldable pub glyphs_begun : List ℕ → Buffer → Buffer
glyphs_begun gdef b = items_mapped (begun gdef) b

-- what is stored of the first glyphs is what the table says of them
abbrev pub AreProps : List ℕ → List ℕ → Type 0
AreProps gdef props = (g : ℕ) → g < length props → slice_index props g ≡ glyph_props gdef g
