-- The hooks of the shaper that sets a bit of each mask and doubles each glyph in pause 7.
use Rattle.std.specs.Prelude.{◌≡◌, ℕ, ◌==◌, List, [], ◌∷◌, map, refl, if◌then◌else◌}
use Rattle.std.specs.Int.RustNames.{bit_or}
use Rattle.std.proofs.Common.{ap, inl}
use Rattle.shape_items.specs.Buffer.{Buffer}
use Rattle.shape_items.specs.Items.{Item}
use Rattle.shape_buffer.specs.Walks.{items_mapped}
use Rattle.shape_plan.specs.Shaper.{ChangesMasksAlone, without_mask}
use Rattle.shape_prepare.specs.Ranges.{shifted}

abbrev pub with_bit : Item → Item
with_bit item = record item { mask = bit_or item.mask 0x800 }

abbrev pub all_with_bit : Buffer → Buffer
all_with_bit b = items_mapped with_bit b

-- bits past 32 dropped
abbrev pub with_double : Item → Item
with_double item = record item { glyph_id = shifted item.glyph_id 1 }

abbrev pub doubled : ℕ → Buffer → Buffer
doubled n b = if n == 7 then items_mapped with_double b else b

masks_aside : (items : List Item) → map without_mask (map with_bit items) ≡ map without_mask items
masks_aside [] = refl
masks_aside (item ∷ items) = ap (λ (rest : List Item). without_mask item ∷ rest) (masks_aside items)

pub all_with_bit-alone : (b : Buffer) → ChangesMasksAlone b (all_with_bit b)
unfolding items_mapped
all_with_bit-alone b = record { items = masks_aside b.items; scratch = inl refl; rest = refl }
