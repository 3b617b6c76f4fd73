-- Glyphs put in place of others.
use Rattle.std.specs.Prelude.{ℕ, Bool, true, false, Option, Some, None, ◌%◌, ◌==◌, nat_eq, not, if◌then◌else◌}
use Rattle.std.specs.Int.RustNames.{bit_and}
use Rattle.shape_common.specs.declared.general_category.hb_unicode_general_category_t.{hb_unicode_general_category_t}
use Rattle.shape_common.specs.declared.general_category.hb_unicode_general_category_t.TheVariants.{NonspacingMark, OtherLetter}
use Rattle.shape_items.specs.Items.{Item}
use Rattle.arabic_fallback.specs.declared.classes.GlyphClass.{GlyphClass}
use Rattle.arabic_fallback.specs.declared.replaced.NewGlyph.{NewGlyph}
use Rattle.arabic_fallback.specs.declared.replaced.TheConstants.{GONE}

abbrev pub shares : ℕ → ℕ → Bool
shares a b = not (nat_eq (bit_and a b) 0)

abbrev pub classed : GlyphClass → Item → Item
classed c item = record item {
  properties = record item.properties { glyph_class = record { 0 = bit_and c.class.0 14 }; mark_attachment_class = c.attachment };
}

abbrev pub with_glyph : ℕ → Item → Item
with_glyph glyph item = record item { glyph_id = glyph; properties = record item.properties { substituted = true } }

abbrev pub classed_by : Option GlyphClass → Option GlyphClass → Item → Item
classed_by (Some c) guess item = classed c item
classed_by None (Some c) item = classed c item
classed_by None None item = item

-- another glyph, of the class that the face says, or else of the one that is guessed, if one is
abbrev pub replaced : NewGlyph → Option GlyphClass → Item → Item
replaced new guess item = classed_by new.class guess (with_glyph new.glyph item)

-- how many components a glyph has: more than one only if its class is that of ligatures
abbrev pub components_of : Item → ℕ
components_of item = if shares item.properties.glyph_class.0 4 then item.properties.number_of_components else 1

-- a glyph of another class counts as one component
abbrev pub counted : Item → Item
counted item = record item { properties = record item.properties { number_of_components = components_of item } }

-- a mark on a component of a ligature
abbrev pub as_component : ℕ → ℕ → Item → Item
as_component id component item = record item {
  properties = record item.properties { ligature_id = id; ligature_component = component % 16; number_of_components = 1 };
}

abbrev pub letter_of : hb_unicode_general_category_t → hb_unicode_general_category_t
letter_of NonspacingMark = OtherLetter
letter_of category = category

-- a letter has no combining class
abbrev pub letter_ccc : hb_unicode_general_category_t → ℕ → ℕ
letter_ccc NonspacingMark ccc = 0
letter_ccc category ccc = ccc

-- a ligature with its id, of so many components, which isn't a mark any more
abbrev pub with_components : ℕ → ℕ → Item → Item
with_components id components item = record item {
  properties = record item.properties {
    ligature_id = id;
    ligature_component = 0;
    number_of_components = components % 16;
    general_category = letter_of item.properties.general_category;
    modified_ccc = letter_ccc item.properties.general_category item.properties.modified_ccc;
  };
}

-- the class of ligatures
abbrev pub LIGATURE_CLASS : GlyphClass
LIGATURE_CLASS = record { class = record { 0 = 4 }; attachment = 0 }

abbrev pub is_ligated : Item → Item
is_ligated item = record item { properties = record item.properties { ligated = true; multiplied = false } }

-- the ligature in place of its first component; a ligature of marks, or of a base and marks, keeps what the component was
unfoldable pub as_ligature : Bool → ℕ → ℕ → NewGlyph → Item → Item
as_ligature own id components new item =
    is_ligated (counted (if own then replaced new (Some LIGATURE_CLASS) (with_components id components item) else replaced new None item))

-- a component that is to go
abbrev pub is_gone : Item → Bool
is_gone item = item.properties.shaper_auxiliary == GONE

abbrev pub gone : Item → Item
gone item = record item { properties = record item.properties { shaper_auxiliary = GONE } }
