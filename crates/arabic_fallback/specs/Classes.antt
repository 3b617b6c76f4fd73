-- The class that a layout engine gives a glyph: the class in a text of that glyph alone.
use Rattle.std.specs.Prelude.{ℕ, Bool, if◌then◌else◌, Option, None, insert, [], slice_get}
use Rattle.std.specs.Option.{option_map}
use Rattle.shape_common.specs.Positions.{zero_position}
use Rattle.shape_items.specs.Buffer.{Buffer, new_buffer}
use Rattle.shape_items.specs.Items.{Item, new_item}
use Rattle.arabic_fallback.specs.declared.classes.GlyphClass.{GlyphClass}

abbrev pub class_of_item : Item → GlyphClass
class_of_item item = record { class = item.properties.glyph_class; attachment = item.properties.mark_attachment_class }

-- a text of one glyph
abbrev pub alone : ℕ → Buffer
alone glyph = record new_buffer {
  items = insert [] 0 (record (new_item 0 0) { glyph_id = glyph });
  positions = insert [] 0 zero_position;
}

-- as `start`, which prepares a buffer for lookups, gives it; none in a face without classes
abbrev pub class_by : Bool → (Buffer → Buffer) → ℕ → Option GlyphClass
class_by has start glyph = if has then option_map class_of_item (slice_get (start (alone glyph)).items 0) else None
