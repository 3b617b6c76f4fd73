-- Capitals that a feature is switched on for.
use Rattle.std.specs.Prelude.{◌≡◌, ℕ, ◌&&◌, nat_le, Bool, true, false, List, [], ◌∷◌, map, refl, if◌then◌else◌}
use Rattle.std.specs.Int.RustNames.{bit_or}
use Rattle.std.proofs.Common.{ap, inl, ◌∙◌}
use Rattle.shape_items.specs.Buffer.{Buffer}
use Rattle.shape_items.specs.Items.{Item}
use Rattle.shape_buffer.specs.Walks.{items_mapped}
use Rattle.shape_plan.specs.Shaper.{ChangesMasksAlone, without_mask}

-- A to Z
abbrev pub is_capital : ℕ → Bool
is_capital c = nat_le 0x41 c && nat_le c 0x5A

abbrev pub capital_marked : ℕ → Item → Item
capital_marked mask item = if is_capital item.codepoint then record item { mask = bit_or item.mask mask } else item

abbrev pub capitals_marked : ℕ → Buffer → Buffer
capitals_marked mask b = items_mapped (capital_marked mask) b

marked-aside : (mask : ℕ) (item : Item) → without_mask (capital_marked mask item) ≡ without_mask item
marked-aside mask item = elim (is_capital item.codepoint)
    as (λ t. without_mask (if t then record item { mask = bit_or item.mask mask } else item) ≡ without_mask item)
    [ true ↦ refl | false ↦ refl ]

masks-aside : (mask : ℕ) (items : List Item) → map without_mask (map (capital_marked mask) items) ≡ map without_mask items
masks-aside mask [] = refl
masks-aside mask (item ∷ items) =
    ap (λ (x : Item). x ∷ map without_mask (map (capital_marked mask) items)) (marked-aside mask item)
    ∙ ap (λ (rest : List Item). without_mask item ∷ rest) (masks-aside mask items)

pub capitals_marked-alone : (mask : ℕ) (b : Buffer) → ChangesMasksAlone b (capitals_marked mask b)
unfolding items_mapped
capitals_marked-alone mask b = record { items = masks-aside mask b.items; scratch = inl refl; rest = refl }
