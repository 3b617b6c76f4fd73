-- The ccc that the marks of a buffer are placed by.
use Rattle.std.specs.Prelude.{Bool, if◌then◌else◌}
use Rattle.shape_items.specs.Buffer.{Buffer}
use Rattle.shape_common.specs.Category.{is_nonspacing_category}
use Rattle.shape_items.specs.Items.{Item}
use Rattle.shape_buffer.specs.Walks.{items_mapped}
use Rattle.shape_fallback.specs.Ccc.{fallback_ccc}

-- a mark that takes no room of its own along the line
unfoldable pub is_nonspacing : Item → Bool
is_nonspacing item = is_nonspacing_category item.properties.general_category

-- an item with the ccc that it is placed by: only nonspacing marks have another one than before
unfoldable pub recategorized_item : Item → Item
recategorized_item item =
    if is_nonspacing item then
    record item { properties = record item.properties { modified_ccc = fallback_ccc item.codepoint item.properties.modified_ccc } }
    else item

-- every mark of the buffer
abbrev pub recategorized : Buffer → Buffer
recategorized = items_mapped recategorized_item
