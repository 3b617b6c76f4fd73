-- Glyphs and their classes as substitution begins; syllables.
use Rattle.std.specs.Prelude.{◌&&◌, not, false, if◌then◌else◌}
use Rattle.shape_items.specs.Buffer.{Buffer}
use Rattle.shape_common.specs.Category.{is_nonspacing_category}
use Rattle.shape_items.specs.Items.{Item, is_ignorable_item}
use Rattle.shape_buffer.specs.Walks.{items_mapped}
use Rattle.shape_common.specs.declared.flags.GlyphPropsFlags.{GlyphPropsFlags}
use Rattle.shape_common.specs.FlagNames.{MARK, BASE_GLYPH}

-- the glyph of an item becomes the one that the face returned for its character
abbrev pub with_nominal_glyph : Item → Item
with_nominal_glyph item = record item { glyph_id = item.glyph_index }

unfoldable pub glyphs_mapped : Buffer → Buffer
glyphs_mapped b = items_mapped with_nominal_glyph b

-- MARK for a nonspacing mark that isn't ignorable, else BASE_GLYPH
abbrev pub class_of_glyph : Item → GlyphPropsFlags
class_of_glyph item =
    if is_nonspacing_category item.properties.general_category && not (is_ignorable_item item) then record { 0 = MARK }
    else record { 0 = BASE_GLYPH }

-- the item with that class, as a glyph that no lookup has made, and in no class of attaching marks
abbrev pub with_class : Item → Item
with_class item = record item {
  properties = record item.properties {
    glyph_class = class_of_glyph item;
    substituted = false;
    ligated = false;
    multiplied = false;
    mark_attachment_class = 0;
  };
}

unfoldable pub classes_synthesised : Buffer → Buffer
classes_synthesised b = items_mapped with_class b

abbrev pub without_syllable : Item → Item
without_syllable item = record item { properties = record item.properties { syllable = 0 } }

-- every item in syllable 0
unfoldable pub syllables_cleared : Buffer → Buffer
syllables_cleared b = items_mapped without_syllable b
