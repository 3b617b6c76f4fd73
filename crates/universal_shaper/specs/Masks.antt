-- Masks of features that belong to places of a syllable, and forms of whole syllables.
use Rattle.std.specs.Prelude.{ℕ, zero, suc, ◌+◌, ◌-◌, ◌==◌, ◌&&◌, not, min, nat_lt, Bool, true, false, if◌then◌else◌, length, set}
use Rattle.std.specs.Int.RustNames.{bit_or, bit_and, bit_xor}
use Rattle.shape_items.specs.Buffer.{Buffer}
use Rattle.shape_items.specs.Items.{Item}
use Rattle.syllables.specs.UniversalCategories.{R}
use Rattle.syllabic.specs.Walking.{item_at, category_of, syllable_of, kind_of_byte, begins_at, end_of, at_syllable, each_syllable, OfSyllable}
use Rattle.universal_shaper.specs.declared.masks.Form.{Form}
use Rattle.universal_shaper.specs.declared.masks.Form.TheVariants as form
use Rattle.universal_shaper.specs.declared.masks.FormMasks.{FormMasks}
use Rattle.universal_shaper.specs.declared.masks.Formed.{Formed}

abbrev pub with_mask : ℕ → Item → Item
with_mask mask item = record item { mask = bit_or item.mask mask }

abbrev pub mask_added : ℕ → ℕ → Buffer → Buffer
mask_added mask i b = record b { items = set b.items i (with_mask mask (item_at b.items i)) }

-- a mask for so many items
abbrev pub masks_added : ℕ → (start count : ℕ) → Buffer → Buffer
masks_added mask start zero b = b
masks_added mask start (suc k) b = mask_added mask (start + k) (masks_added mask start k b)

-- a sign for a repha alone, or three items of a syllable
abbrev pub repha_count : Item → ℕ → ℕ
repha_count first count = if category_of first == R then 1 else min count 3

abbrev pub repha_masked : ℕ → OfSyllable
repha_masked mask b start end = masks_added mask start (repha_count (item_at b.items start) (end - start)) b

abbrev pub repha_masked_at : ℕ → ℕ → Buffer → Buffer
repha_masked_at mask i b = at_syllable (repha_masked mask) i b

abbrev pub rephas_masked : ℕ → Buffer → Buffer
rephas_masked mask b = each_syllable (repha_masked mask) b

-- ---- forms

abbrev pub form_mask : FormMasks → Form → ℕ
form_mask masks form.None = 0
form_mask masks form.Isol = masks.isol
form_mask masks form.Init = masks.init
form_mask masks form.Medi = masks.medi
form_mask masks form.Fina = masks.fina

abbrev pub all_masks : FormMasks → ℕ
all_masks masks = bit_or (bit_or (bit_or masks.isol masks.init) masks.medi) masks.fina

abbrev pub without_bits : ℕ → ℕ → ℕ
without_bits mask bits = bit_xor mask (bit_and mask bits)

-- a form in place of any other one
abbrev pub in_form : FormMasks → Form → Item → Item
in_form masks form item = record item { mask = bit_or (without_bits item.mask (all_masks masks)) (form_mask masks form) }

abbrev pub form_set : FormMasks → Form → ℕ → Buffer → Buffer
form_set masks form i b = record b { items = set b.items i (in_form masks form (item_at b.items i)) }

abbrev pub forms_set : FormMasks → Form → (start count : ℕ) → Buffer → Buffer
forms_set masks form start zero b = b
forms_set masks form start (suc k) b = form_set masks form (start + k) (forms_set masks form start k b)

abbrev pub joins_on : Form → Bool
joins_on form.Isol = true
joins_on form.Fina = true
joins_on _ = false

abbrev pub joined : Form → Form
joined form.Fina = form.Medi
joined _ = form.Init

-- hieroglyphs (6) and what is no syllable (8) have no forms
abbrev pub has_forms : ℕ → Bool
has_forms byte = not (kind_of_byte byte == 6) && nat_lt (kind_of_byte byte) 8

abbrev pub form_after : Form → Form
form_after before = if joins_on before then form.Fina else form.Isol

abbrev pub both_set : FormMasks → Formed → (start end : ℕ) → Buffer → Buffer
both_set masks before start end b =
    let joined_on = if joins_on before.form then forms_set masks (joined before.form) before.start (start - before.start) b else b in
    forms_set masks (form_after before.form) start (end - start) joined_on

abbrev pub formed_at : FormMasks → Formed → ℕ → Buffer → Buffer
formed_at masks before i b =
    if begins_at b.items i && has_forms (syllable_of (item_at b.items i)) then both_set masks before i (end_of b.items i) b else b

abbrev pub form_at : Formed → ℕ → Buffer → Formed
form_at before i b =
    if begins_at b.items i
    then if has_forms (syllable_of (item_at b.items i)) then record { start = i; form = form_after before.form }
    else record { start = i; form = form.None }
    else before

abbrev pub formed_next : FormMasks → ℕ → Buffer × Formed → Buffer × Formed
formed_next masks i (b, before) = (formed_at masks before i b, form_at before i b)

abbrev pub formed_to : FormMasks → ℕ → Buffer → Buffer × Formed
formed_to masks zero b = (b, record { start = 0; form = form.None })
formed_to masks (suc i) b = formed_next masks i (formed_to masks i b)

abbrev pub all_forms_set : FormMasks → Buffer → Buffer
all_forms_set masks b = (formed_to masks (length b.items) b).0

-- a feature that is on everywhere has no mask of its own
abbrev pub own_mask : ℕ → ℕ → ℕ
own_mask mask global = if mask == global then 0 else mask

abbrev pub own_masks : FormMasks → ℕ → FormMasks
own_masks masks global = record {
  isol = own_mask masks.isol global;
  init = own_mask masks.init global;
  medi = own_mask masks.medi global;
  fina = own_mask masks.fina global;
}

abbrev pub forms_set_if_any : FormMasks → Buffer → Buffer
forms_set_if_any masks b = if all_masks masks == 0 then b else all_forms_set masks b
