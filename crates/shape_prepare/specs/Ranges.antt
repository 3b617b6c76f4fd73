-- Features that the user asks for over some clusters.
use Rattle.std.specs.Prelude.{ℕ, ◌-◌, ◌*◌, ◌^◌, ◌%◌, ◌&&◌, nat_le, nat_lt, List, fold, if◌then◌else◌}
use Rattle.std.specs.Int.RustNames.{bit_and, bit_or}
use Rattle.shape_items.specs.Buffer.{Buffer}
use Rattle.shape_items.specs.Items.{Item}
use Rattle.shape_buffer.specs.Layout.{MapMeaning}
use Rattle.shape_buffer.specs.Walks.{items_mapped}
use Rattle.shape_common.specs.declared.text_types.Feature.{Feature}
use Rattle.shape_plan.specs.Requests.{is_global}

-- a value at its place in a mask, bits past 32 dropped
abbrev pub shifted : ℕ → ℕ → ℕ
shifted value shift = (value * 2 ^ shift) % 2 ^ 32

-- a mask whose bits in `bits` become those of a value
abbrev pub with_value : ℕ → ℕ → ℕ → ℕ
with_value bits value mask = bit_or (bit_and mask (4294967295 - bits)) (bit_and value bits)

-- an item whose cluster is from `start` up to `end`, with the value
abbrev pub with_feature : Feature → ℕ × ℕ → Item → Item
with_feature feature place item =
    if nat_le feature.start item.cluster && nat_lt item.cluster feature.end then
    record item { mask = with_value place.0 (shifted feature.value place.1) item.mask }
    else item

-- a feature over its clusters; one over the whole text is in the masks from the start
abbrev pub range_masked : MapMeaning → Buffer → Feature → Buffer
range_masked map b feature =
    if is_global feature then b else items_mapped (with_feature feature (map.mask feature.tag)) b

-- the features of the user in order
unfoldable pub ranges_masked : MapMeaning → List Feature → Buffer → Buffer
ranges_masked map features b = fold (range_masked map) b features
