-- Setting masks keeps clusters, flags and the number of items.
use Rattle.std.proofs.Common.{◌≡◌, ℕ, zero, suc, ◌+◌, ◌-◌, ◌==◌, ◌&&◌, nat_lt, true, false, if◌then◌else◌, length, refl, ap, ◌∙◌, bit_and, bit_or}
use Rattle.std.proofs.lemmas.Nat.{and_assoc, and_xor_apart}
use Rattle.std.specs.Int.Bits.{and_zero_r}
use Rattle.shape_items.specs.Buffer.{Buffer}
use Rattle.shape_items.specs.PreservesFlags.{IsDefinedFlag}
use Rattle.shape_buffer.specs.Layout.{HasNoDefinedFlag}
use Rattle.shape_buffer.proofs.Flags.FeatureBitLemmas.{feature_flagless, feature-or, added_brings_none}
use Rattle.syllabic.specs.Walking.{item_at, begins_at, end_of, syllable_of}
use Rattle.syllabic.proofs.PreservationLemmas.{Keeps, Keeps-same, Keeps-then, Keeps-set, Keeps-each_syllable, LeavesBoth}
use Rattle.universal_shaper.specs.Masks.{with_mask, mask_added, masks_added, repha_count, repha_masked, rephas_masked, form_mask, all_masks}
use Rattle.universal_shaper.specs.Masks.{without_bits, in_form, form_set, forms_set, joins_on, joined, has_forms, form_after, both_set, formed_at}
use Rattle.universal_shaper.specs.Masks.{formed_to, all_forms_set, own_mask, own_masks, forms_set_if_any}
use Rattle.universal_shaper.specs.declared.masks.Form.{Form}
use Rattle.universal_shaper.specs.declared.masks.Form.TheVariants as form
use Rattle.universal_shaper.specs.declared.masks.FormMasks.{FormMasks}
use Rattle.universal_shaper.specs.declared.masks.Formed.{Formed}

leaves-with_mask : (mask : ℕ) → HasNoDefinedFlag mask → LeavesBoth (with_mask mask)
leaves-with_mask mask none = record {
  cluster = λ x. refl;
  flags = λ flag defined x. ap (nat_lt 0) (added_brings_none mask x.mask flag none defined);
}

pub Keeps-masks_added : (mask : ℕ) → HasNoDefinedFlag mask → (start count : ℕ) (b : Buffer) → Keeps b (masks_added mask start count b)
Keeps-masks_added mask none start zero b = Keeps-same b
Keeps-masks_added mask none start (suc k) b =
    let before = masks_added mask start k b in
    Keeps-then b before (mask_added mask (start + k) before) (Keeps-masks_added mask none start k b)
    (Keeps-set (with_mask mask) (leaves-with_mask mask none) (start + k) before)

pub Keeps-rephas : (mask : ℕ) → HasNoDefinedFlag mask → (b : Buffer) → Keeps b (rephas_masked mask b)
Keeps-rephas mask none b =
    Keeps-each_syllable (repha_masked mask) (λ c start end ordered within. Keeps-masks_added mask none start
    (repha_count (item_at c.items start) (end - start)) c) b

-- ---- forms

-- none of the masks of forms has a flag
pub record FormsFlagless (masks : FormMasks) : Type 0 where
  pub isol : HasNoDefinedFlag masks.isol
  pub init : HasNoDefinedFlag masks.init
  pub medi : HasNoDefinedFlag masks.medi
  pub fina : HasNoDefinedFlag masks.fina

flagless-form : (masks : FormMasks) → FormsFlagless masks → (f : Form) → HasNoDefinedFlag (form_mask masks f)
flagless-form masks none form.None = refl
flagless-form masks none form.Isol = none.isol
flagless-form masks none form.Init = none.init
flagless-form masks none form.Medi = none.medi
flagless-form masks none form.Fina = none.fina

flagless-all : (masks : FormMasks) → FormsFlagless masks → HasNoDefinedFlag (all_masks masks)
flagless-all masks none =
    feature-or (bit_or (bit_or masks.isol masks.init) masks.medi) masks.fina
    (feature-or (bit_or masks.isol masks.init) masks.medi (feature-or masks.isol masks.init none.isol none.init) none.medi) none.fina

-- bits of features that go take no flag with them
without-flags : (mask bits flag : ℕ) → HasNoDefinedFlag bits → IsDefinedFlag flag → bit_and (without_bits mask bits) flag ≡ bit_and mask flag
without-flags mask bits flag none defined =
    let gone : bit_and (bit_and mask bits) flag ≡ 0 = and_assoc flag mask bits
    ∙ ap (bit_and mask) (feature_flagless bits flag none defined) ∙ and_zero_r mask in
    and_xor_apart flag mask (bit_and mask bits) gone

leaves-in_form : (masks : FormMasks) → FormsFlagless masks → (f : Form) → LeavesBoth (in_form masks f)
leaves-in_form masks none f = record {
  cluster = λ x. refl;
  flags = λ flag defined x. ap (nat_lt 0)
      (added_brings_none (form_mask masks f) (without_bits x.mask (all_masks masks)) flag (flagless-form masks none f) defined
      ∙ without-flags x.mask (all_masks masks) flag (flagless-all masks none) defined);
}

Keeps-forms_set : (masks : FormMasks) → FormsFlagless masks → (f : Form) (start count : ℕ) (b : Buffer) → Keeps b (forms_set masks f start count b)
Keeps-forms_set masks none f start zero b = Keeps-same b
Keeps-forms_set masks none f start (suc k) b =
    let before = forms_set masks f start k b in
    Keeps-then b before (form_set masks f (start + k) before) (Keeps-forms_set masks none f start k b)
    (Keeps-set (in_form masks f) (leaves-in_form masks none f) (start + k) before)

Keeps-both_set : (masks : FormMasks) → FormsFlagless masks → (before : Formed) (start end : ℕ) (b : Buffer) → Keeps b (both_set masks before start end b)
Keeps-both_set masks none before start end b =
    elim (joins_on before.form) as (λ t. Keeps b (forms_set masks (form_after before.form) start (end - start)
    (if t then forms_set masks (joined before.form) before.start (start - before.start) b else b))) [
      | true ↦ let joined_on = forms_set masks (joined before.form) before.start (start - before.start) b in
          Keeps-then b joined_on (forms_set masks (form_after before.form) start (end - start) joined_on)
          (Keeps-forms_set masks none (joined before.form) before.start (start - before.start) b)
          (Keeps-forms_set masks none (form_after before.form) start (end - start) joined_on)
      | false ↦ Keeps-forms_set masks none (form_after before.form) start (end - start) b
    ]

Keeps-formed_at : (masks : FormMasks) → FormsFlagless masks → (before : Formed) (i : ℕ) (b : Buffer) → Keeps b (formed_at masks before i b)
Keeps-formed_at masks none before i b =
    elim (begins_at b.items i && has_forms (syllable_of (item_at b.items i)))
    as (λ t. Keeps b (if t then both_set masks before i (end_of b.items i) b else b)) [
      | true ↦ Keeps-both_set masks none before i (end_of b.items i) b
      | false ↦ Keeps-same b
    ]

Keeps-formed_to : (masks : FormMasks) → FormsFlagless masks → (n : ℕ) (b : Buffer) → Keeps b (formed_to masks n b).0
Keeps-formed_to masks none zero b = Keeps-same b
Keeps-formed_to masks none (suc i) b =
    let c = (formed_to masks i b).0 in
    let f = (formed_to masks i b).1 in
    Keeps-then b c (formed_at masks f i c) (Keeps-formed_to masks none i b) (Keeps-formed_at masks none f i c)

pub Keeps-forms : (masks : FormMasks) → FormsFlagless masks → (b : Buffer) → Keeps b (forms_set_if_any masks b)
Keeps-forms masks none b = elim (all_masks masks == 0) as (λ t. Keeps b (if t then b else all_forms_set masks b)) [
  | true ↦ Keeps-same b
  | false ↦ Keeps-formed_to masks none (length b.items) b
]

own-flagless : (mask global : ℕ) → HasNoDefinedFlag mask → HasNoDefinedFlag (own_mask mask global)
own-flagless mask global none = elim (mask == global) as (λ t. HasNoDefinedFlag (if t then 0 else mask)) [
  | true ↦ refl
  | false ↦ none
]

pub own_masks-flagless : (masks : FormMasks) (global : ℕ) → FormsFlagless masks → FormsFlagless (own_masks masks global)
own_masks-flagless masks global none = record {
  isol = own-flagless masks.isol global none.isol;
  init = own-flagless masks.init global none.init;
  medi = own-flagless masks.medi global none.medi;
  fina = own-flagless masks.fina global none.fina;
}
