-- Glyphs put in place of others.
use Rattle.std.specs.Prelude.{ℕ, Bool, true, false, ◌/◌, ◌%◌, nat_eq, nat_lt, if◌then◌else◌}
use Rattle.std.specs.Int.RustNames.{bit_and}
use Rattle.shape_common.specs.declared.general_category.hb_unicode_general_category_t.{hb_unicode_general_category_t}
use Rattle.shape_common.specs.declared.general_category.hb_unicode_general_category_t.TheVariants.{NonspacingMark, OtherLetter}
use Rattle.shape_items.specs.Items.{Item}
use Rattle.layout_tables.specs.Gdef.{has_glyph_classes, glyph_props}
use Rattle.layout_matching.specs.Skipping.{shares}
use Rattle.layout_matching.specs.declared.lookup.Lookup.{Lookup}

-- how many components a glyph has: more than one only if its class is that of ligatures
abbrev pub components_of : Item → ℕ
components_of item = if shares item.properties.glyph_class.0 4 then item.properties.number_of_components else 1

-- a glyph of another class counts as one component
abbrev pub counted : Item → Item
counted item = record item { properties = record item.properties { number_of_components = components_of item } }

-- the class of a glyph, and in the upper byte of its properties its mark attachment class
abbrev pub with_class : ℕ → Item → Item
with_class props item = counted (record item {
  properties = record item.properties { glyph_class = record { 0 = bit_and props 14 }; mark_attachment_class = props / 256 };
})

abbrev pub with_glyph : ℕ → Item → Item
with_glyph glyph item = record item { glyph_id = glyph; properties = record item.properties { substituted = true } }

-- another glyph, of the class that the font says, or else of the one that is guessed, if one is
abbrev pub replaced : Lookup → ℕ → ℕ → Item → Item
replaced l guess glyph item =
    if has_glyph_classes l.gdef.now then with_class (glyph_props l.gdef.now glyph) (with_glyph glyph item)
    else (if nat_lt 0 guess then with_class guess (with_glyph glyph item) else with_glyph glyph item)

-- a mark on a component of a ligature, or a component of what one glyph was taken apart into
abbrev pub as_component : ℕ → ℕ → Item → Item
as_component id component item = record item {
  properties = record item.properties { ligature_id = id; ligature_component = component % 16; number_of_components = 1 };
}

unfoldable pub is_multiplied : Item → Item
is_multiplied item = record item { properties = record item.properties { multiplied = true } }

-- glyph number `i` of those that one is taken apart into; a glyph that belongs to a ligature stays with it
abbrev pub taken_apart : Lookup → ℕ → ℕ → Item → Item
taken_apart l glyph i item = is_multiplied (replaced l (if shares item.properties.glyph_class.0 4 then 2 else 0) glyph
    (if nat_eq item.properties.ligature_id 0 then as_component 0 i item else item))

abbrev pub letter_of : hb_unicode_general_category_t → hb_unicode_general_category_t
letter_of NonspacingMark = OtherLetter
letter_of category = category

-- a letter has no combining class
abbrev pub letter_ccc : hb_unicode_general_category_t → ℕ → ℕ
letter_ccc NonspacingMark ccc = 0
letter_ccc category ccc = ccc

-- a ligature with its id, of so many components, which isn't a mark any more
abbrev pub with_components : ℕ → ℕ → Item → Item
with_components id components item = record item {
  properties = record item.properties {
    ligature_id = id;
    ligature_component = 0;
    number_of_components = components % 16;
    general_category = letter_of item.properties.general_category;
    modified_ccc = letter_ccc item.properties.general_category item.properties.modified_ccc;
  };
}

-- of multiplied and ligated, what happened last holds
abbrev pub is_ligated : Item → Item
is_ligated item = record item { properties = record item.properties { ligated = true; multiplied = false } }

-- the ligature in place of its first component; a ligature of marks, or of a base and marks, keeps what the component was
unfoldable pub as_ligature : Lookup → Bool → ℕ → ℕ → ℕ → Item → Item
as_ligature l own id components glyph item =
    is_ligated (replaced l (if own then 4 else 0) glyph (if own then with_components id components item else item))
