-- no mask of the engine has a defined flag
use Rattle.std.proofs.Common.{◌≡◌, ℕ, ◌*◌, ◌%◌, ◌<◌, ◌&&◌, true, false, if◌then◌else◌, refl, ◌∙◌, arith, rules}
use Rattle.std.proofs.lemmas.Nat.{and_mask}
use Rattle.std.specs.Int.RustNames.{bit_and}
use Rattle.shape_buffer.specs.Layout.{HasNoDefinedFlag}
use Rattle.shape_common.specs.declared.text_types.hb_tag_t.{hb_tag_t}
use Rattle.kern_table.specs.Map.{kern_masks, kern_mask, is_kern}
use Rattle.kern_table.specs.declared.map.KernMap.{KernMap}

sixteens : (k : ℕ) → HasNoDefinedFlag (16 * k)
sixteens k = let low : bit_and (16 * k) 7 ≡ 16 * k % 8 = and_mask (16 * k) 3 in low ∙ omega arith

pub global_mask-free : (map : KernMap) → HasNoDefinedFlag (kern_masks map).global_mask
global_mask-free map = elim map.is_on as (λ t. HasNoDefinedFlag (if t then 16 * (map.everywhere % 256) else 0)) [
  | true ↦ sixteens (map.everywhere % 256)
  | false ↦ refl
]

pub one_mask-free : (map : KernMap) (tag : hb_tag_t) → HasNoDefinedFlag ((kern_masks map).one_mask tag)
one_mask-free map tag = elim (is_kern tag && map.is_on) as (λ t. HasNoDefinedFlag (if t then 16 else 0)) [ true ↦ refl | false ↦ refl ]

pub mask-free : (map : KernMap) (tag : hb_tag_t) → HasNoDefinedFlag ((kern_masks map).mask tag).0
mask-free map tag = elim (is_kern tag) as (λ t. HasNoDefinedFlag (if t then kern_mask map else 0)) [
  | true ↦ elim map.is_on as (λ t. HasNoDefinedFlag (if t then 4080 else 0)) [ true ↦ refl | false ↦ refl ]
  | false ↦ refl
]

pub shift-small : (map : KernMap) (tag : hb_tag_t) → ((kern_masks map).mask tag).1 < 32
shift-small map tag = search rules
