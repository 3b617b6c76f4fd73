-- What setting masks of features preserves.
use Rattle.std.proofs.Common.{◌≡◌, ℕ, ◌||◌, nat_lt, List, [], ◌∷◌, map, refl, ap, sym, ◌∙◌, bit_or}
use Rattle.std.specs.List.{list_any}
use Rattle.shape_items.specs.Buffer.{Buffer}
use Rattle.shape_items.specs.Items.{Item}
use Rattle.shape_items.specs.PreservesFlags.{PreservesFlags, IsDefinedFlag, has_flag, some_has}
use Rattle.shape_items.proofs.Flags.FlagLemmas.{PreservesFlags-items}
use Rattle.shape_buffer.specs.Layout.{HasNoDefinedFlag}
use Rattle.shape_buffer.specs.Preservation.{IsFlagPreserving}
use Rattle.shape_buffer.specs.Walks.{items_mapped}
use Rattle.shape_buffer.proofs.Flags.FeatureBitLemmas.{added_brings_none}
use Rattle.shape_buffer.proofs.Steps.PreservationLemmas.{flags-none_brought}

-- a mask of features that is added brings no flag
pub added_flag : (mask flag : ℕ) (x : Item) → HasNoDefinedFlag mask → IsDefinedFlag flag
    → has_flag flag (record x { mask = bit_or x.mask mask }) ≡ has_flag flag x
added_flag mask flag x none defined = ap (nat_lt 0) (added_brings_none mask x.mask flag none defined)

-- whether some item has a flag depends on the flags of each
any-flags : (flag : ℕ) (xs : List Item) → some_has flag xs ≡ list_any (λ t. t) (map (has_flag flag) xs)
any-flags flag [] = refl
any-flags flag (x ∷ xs) = ap (λ t. has_flag flag x || t) (any-flags flag xs)

-- items that have the flags of others
pub flags-same : (b : Buffer) (ys : List Item)
    → ((flag : ℕ) → IsDefinedFlag flag → map (has_flag flag) ys ≡ map (has_flag flag) b.items) → PreservesFlags b (record b { items = ys })
flags-same b ys same = PreservesFlags-items b ys (λ flag defined some.
    any-flags flag b.items ∙ ap (list_any (λ t. t)) (sym (same flag defined)) ∙ sym (any-flags flag ys) ∙ some)

pub flags-mapped : (f : Item → Item) → ((flag : ℕ) → IsDefinedFlag flag → (x : Item) → has_flag flag (f x) ≡ has_flag flag x)
    → IsFlagPreserving (items_mapped f)
flags-mapped f same = flags-none_brought f (λ flag defined x some. sym (same flag defined x) ∙ some)
