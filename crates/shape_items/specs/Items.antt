-- Items.
use Rattle.std.specs.Prelude.{◌&&◌, not, ℕ, Bool, false, ◌==◌, if◌then◌else◌}
use Rattle.std.specs.Int.RustNames.{bit_and}
use Rattle.shape_common.specs.Category.{is_mark_category}
use Rattle.shape_items.specs.Properties.{Properties}
use Rattle.shape_common.specs.declared.general_category.hb_unicode_general_category_t.TheVariants.{UppercaseLetter}
use Rattle.shape_items.specs.declared.items.hb_glyph_info_t.{hb_glyph_info_t}

-- an item
abbrev pub Item : Type 0
Item = hb_glyph_info_t

-- an item as a text brings it in
abbrev pub new_item : ℕ → ℕ → Item
new_item c cluster = record {
  codepoint = c;
  glyph_index = 0;
  glyph_id = 0;
  mask = 0;
  cluster = cluster;
  properties = record {
    general_category = UppercaseLetter;
    modified_ccc = 0;
    ignorable = false;
    hidden = false;
    continuation = false;
    zwj = false;
    zwnj = false;
    space_type = 0;
    selector_mark = false;
    glyph_class = record { 0 = 0 };
    substituted = false;
    ligated = false;
    multiplied = false;
    mark_attachment_class = 0;
    ligature_id = 0;
    ligature_component = 0;
    number_of_components = 1;
    syllable = 0;
    shaper_category = 0;
    shaper_auxiliary = 0;
  };
}

-- its properties, which are the same for every character
abbrev pub new_properties : Properties
new_properties = (new_item 0 0).properties

-- whether an item is a mark, by its category
abbrev pub is_mark_item : Item → Bool
is_mark_item item = is_mark_category item.properties.general_category

-- a default ignorable that no lookup has replaced
abbrev pub is_ignorable_item : Item → Bool
is_ignorable_item item = item.properties.ignorable && not item.properties.substituted

-- the modified combining class of an item
abbrev pub ccc_of_item : Item → ℕ
ccc_of_item item = item.properties.modified_ccc

-- the character of an item
abbrev pub char_of : Item → ℕ
char_of item = item.codepoint

-- a mask without the three defined flags
abbrev pub feature_bits : ℕ → ℕ
feature_bits mask = bit_and mask 0xFFFFFFF8

-- whether an item stands in the cluster
abbrev pub has_cluster : ℕ → Item → Bool
has_cluster cluster item = item.cluster == cluster

-- the item in this cluster: if its cluster changes it loses its defined flags
abbrev pub put_in : ℕ → Item → Item
put_in cluster item =
    if item.cluster == cluster then item else record item { cluster = cluster; mask = feature_bits item.mask }
