-- The `preprocess_text` hook that changes characters.
use Rattle.std.specs.Prelude.{◌==◌, if◌then◌else◌}
use Rattle.shape_items.specs.Buffer.{Buffer}
use Rattle.shape_items.specs.Items.{Item}
use Rattle.shape_buffer.specs.Walks.{items_mapped}

-- U+0061 becomes U+0301, with the properties that it has
abbrev pub changed : Item → Item
changed item = if item.codepoint == 0x61 then record item { codepoint = 0x301 } else item

abbrev pub all_changed : Buffer → Buffer
all_changed b = items_mapped changed b
