-- Glyphs put in place of others.
use Rattle.std.specs.Prelude.{ℕ, List, Option, ◌/◌, false, if◌then◌else◌}
use Rattle.std.specs.Int.RustNames.{bit_and}
use Rattle.std.specs.Option.{option_map}
use Rattle.shape_font.specs.Bytes.{u16_of}
use Rattle.shape_items.specs.Items.{Item}
use Rattle.layout_tables.specs.Gdef.{has_glyph_classes, glyph_props}
use Rattle.apple_tables.specs.Lookups.{place_of}

-- the class of a glyph, and in the upper byte of its properties its mark attachment class
abbrev pub with_class : ℕ → Item → Item
with_class props item = record item {
  properties = record item.properties { glyph_class = record { 0 = bit_and props 14 }; mark_attachment_class = props / 256 };
}

-- another glyph, of the class that GDEF says, if it has classes of glyphs
abbrev pub replaced : List ℕ → ℕ → Item → Item
replaced gdef glyph item = let other = record item { glyph_id = glyph } in
    (if has_glyph_classes gdef then with_class (glyph_props gdef glyph) other else other)

-- the glyph in place of another by a lookup table; a table of format 10 has none
abbrev pub glyph_by : List ℕ → ℕ → ℕ → ℕ → Option ℕ
glyph_by t start glyphs glyph = option_map (u16_of t) (place_of t start false glyphs glyph)
