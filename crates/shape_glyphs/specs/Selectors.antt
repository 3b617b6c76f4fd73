-- Variation selectors for which the face has no variation glyph.
use Rattle.std.specs.Prelude.{◌==◌, Bool, false, Option, Some, None, map, if◌then◌else◌}
use Rattle.std.specs.Int.RustNames.{bit_and}
use Rattle.shape_items.specs.Buffer.{Buffer}
use Rattle.shape_items.specs.Items.{Item}
use Rattle.shape_buffer.specs.PositionWalks.{positions_over}
use Rattle.shape_common.specs.declared.positions.GlyphPosition.{GlyphPosition}
use Rattle.shape_common.specs.declared.text_types.GlyphId.{GlyphId}
use Rattle.shape_glyphs.specs.Ignorables.{without_values}
use Rattle.shape_common.specs.FlagNames.{HAS_VARIATION_SELECTOR_FALLBACK}

-- the run has seen such selectors (scratch flag 16)
abbrev pub has_selector_fallback : Buffer → Bool
has_selector_fallback b = bit_and b.scratch_flags.0 HAS_VARIATION_SELECTOR_FALLBACK == HAS_VARIATION_SELECTOR_FALLBACK

-- a marked selector takes the glyph and is marked no longer
abbrev pub not_found_item : GlyphId → Item → Item
not_found_item glyph item =
    if item.properties.selector_mark then record item { glyph_id = glyph.0; properties = record item.properties { selector_mark = false } }
    else item

-- and its four values become 0
abbrev pub not_found_position : Item → GlyphPosition → GlyphPosition
not_found_position item position = if item.properties.selector_mark then without_values position else position

abbrev pub selectors_replaced_by : Option GlyphId → Buffer → Buffer
selectors_replaced_by None b = b
selectors_replaced_by (Some glyph) b = record b {
  items = map (not_found_item glyph) b.items;
  positions = positions_over not_found_position b.items b.positions;
}

-- marked selectors take the not-found glyph, if the run has seen any and the glyph is set
unfoldable pub selectors_replaced : Buffer → Buffer
selectors_replaced b = if has_selector_fallback b then selectors_replaced_by b.not_found_variation_selector_glyph b else b
