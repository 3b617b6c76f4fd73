-- Masks of the forms of letters that join.
use Rattle.std.specs.Prelude.{◌≡◌, ℕ, zero, suc, ◌+◌, ◌&&◌, nat_lt, Bool, if◌then◌else◌, Option, None, Some, is_some, List, [], ◌∷◌, length, map, set}
use Rattle.std.specs.Prelude.{drop, reverse, slice_index_or, refl}
use Rattle.std.specs.List.{find}
use Rattle.std.specs.Option.{option_map}
use Rattle.std.specs.Int.RustNames.{bit_or}
use Rattle.std.proofs.Common.{ap, inl, ◌∙◌}
use Rattle.std.proofs.Math.Seq.{map-set_same}
use Rattle.shape_items.specs.Buffer.{Buffer}
use Rattle.shape_items.specs.Items.{Item, new_item, char_of}
use Rattle.shape_common.specs.declared.text_types.hb_tag_t.{hb_tag_t}
use Rattle.shape_plan.specs.Shaper.{ChangesMasksAlone, without_mask}
use Rattle.letter_joining.specs.Joining.{kind_of, next_state, settled, is_selector}
use Rattle.letter_joining.specs.declared.features.TheConstants.{ISOL, FINA, FIN2, FIN3, MEDI, MED2, INIT}
use Rattle.letter_joining.specs.declared.joining.Kind.{Kind}
use Rattle.letter_joining.specs.declared.joining.State.{State}
use Rattle.letter_joining.specs.declared.joining.State.TheVariants.{Free}
use Rattle.letter_joining.specs.declared.joining.Form.{Form}
use Rattle.letter_joining.specs.declared.joining.Form.TheVariants as form
use Rattle.letter_joining.specs.declared.forms.FormMasks.{FormMasks}
use Rattle.letter_joining.specs.declared.forms.Joining.{Joining}

abbrev pub form_mask : FormMasks → Form → ℕ
form_mask masks form.None = 0
form_mask masks form.Isol = masks.isol
form_mask masks form.Fina = masks.fina
form_mask masks form.Fin2 = masks.fin2
form_mask masks form.Fin3 = masks.fin3
form_mask masks form.Medi = masks.medi
form_mask masks form.Med2 = masks.med2
form_mask masks form.Init = masks.init

-- the masks by the places of forms
abbrev pub mask_list : FormMasks → List ℕ
mask_list masks =
    0 ∷ masks.isol ∷ masks.fina ∷ masks.fin2 ∷ masks.fin3 ∷ masks.medi ∷ masks.med2 ∷ masks.init ∷ []

abbrev pub masks_by : (hb_tag_t → ℕ) → FormMasks
masks_by mask = record {
  isol = mask ISOL;
  fina = mask FINA;
  fin2 = mask FIN2;
  fin3 = mask FIN3;
  medi = mask MEDI;
  med2 = mask MED2;
  init = mask INIT;
}

abbrev pub is_opaque : ℕ → Bool
is_opaque c = is_some (kind_of c)

abbrev pub is_opaque_item : Item → Bool
is_opaque_item item = is_opaque item.codepoint

abbrev pub same : ℕ → ℕ
same c = c

-- the kind of a character, or another one if there is none
abbrev pub kind_or : Option Kind → Option ℕ → Option Kind
kind_or after None = after
kind_or after (Some c) = kind_of c

-- of the first character of a context that isn't transparent, and of the last one
abbrev pub kind_after : List ℕ → Option Kind
kind_after context = kind_or None (option_map same (find is_opaque context))

abbrev pub kind_before : List ℕ → Option Kind
kind_before context = kind_or None (option_map same (find is_opaque (reverse context)))

-- of the first item that isn't transparent, or what stands after the text
abbrev pub first_kind : List Item → Option Kind → Option Kind
first_kind items after = kind_or after (option_map char_of (find is_opaque_item items))

-- where a walk stands after a character that is transparent, or of a kind
abbrev pub joined_as : Bool → Joining → ℕ → Option Kind → Option Kind → Joining
joined_as mongolian joining c next (Some kind) = record { state = next_state joining.state kind; last = settled joining.state kind next }
joined_as mongolian joining c next None =
    if mongolian && is_selector c then joining else record joining { last = form.None }

abbrev pub joined_by : Bool → Joining → ℕ → Option Kind → Joining
joined_by mongolian joining c next = joined_as mongolian joining c next (kind_of c)

abbrev pub item_at : List Item → ℕ → Item
item_at items i = slice_index_or items i (new_item 0 0)

-- the kind of the item at a place, or that of what stands after the text
abbrev pub kind_at : List Item → ℕ → Option Kind → Option Kind
kind_at items i after = if nat_lt i (length items) then kind_of (item_at items i).codepoint else after

-- where a walk stands after the item at a place
abbrev pub form_at : Bool → Option Kind → Joining → ℕ → Buffer → Joining
form_at mongolian after joining i b =
    joined_by mongolian joining (item_at b.items i).codepoint (first_kind (drop (i + 1) b.items) after)

abbrev pub masked_by : ℕ → Item → Item
masked_by mask item = record item { mask = bit_or item.mask mask }

-- the item at a place with the mask of its form
abbrev pub formed_at : FormMasks → Bool → Option Kind → Joining → ℕ → Buffer → Buffer
formed_at masks mongolian after joining i b =
    record b { items = set b.items i (masked_by (form_mask masks (form_at mongolian after joining i b).last) (item_at b.items i)) }

-- where a walk begins after a kind of character
abbrev pub begun : Option Kind → Joining
begun None = record { state = Free; last = form.None }
begun (Some kind) = record { state = next_state Free kind; last = form.None }

-- the first so many items with the masks of their forms, and where the walk stands then
abbrev pub formed_next : FormMasks → Bool → Option Kind → ℕ → Buffer × Joining → Buffer × Joining
formed_next masks mongolian after i (b, joining) =
    (formed_at masks mongolian after joining i b, form_at mongolian after joining i b)

abbrev pub formed_to : FormMasks → Bool → Option Kind → Joining → ℕ → Buffer → Buffer × Joining
formed_to masks mongolian after joining zero b = (b, joining)
formed_to masks mongolian after joining (suc i) b = formed_next masks mongolian after i (formed_to masks mongolian after joining i b)

-- all items
abbrev pub formed : FormMasks → Bool → Buffer → Buffer
formed masks mongolian b =
    (formed_to masks mongolian (kind_after b.post_context) (begun (kind_before b.pre_context)) (length b.items) b).0

-- ---- nothing else is changed

module _ (masks : FormMasks) (mongolian : Bool) (after : Option Kind) (joining : Joining) where
  formed-items : (n : ℕ) (b : Buffer) → map without_mask (formed_to masks mongolian after joining n b).0.items ≡ map without_mask b.items
  formed-items zero b = refl
  formed-items (suc i) b =
      let c = (formed_to masks mongolian after joining i b).0 in
      let j = (formed_to masks mongolian after joining i b).1 in
      map-set_same without_mask c.items i (masked_by (form_mask masks (form_at mongolian after j i c).last) (item_at c.items i))
      (new_item 0 0) refl
      ∙ formed-items i b

  formed-scratch : (n : ℕ) (b : Buffer) → (formed_to masks mongolian after joining n b).0.scratch_flags ≡ b.scratch_flags
  formed-scratch zero b = refl
  formed-scratch (suc i) b = formed-scratch i b

  formed-rest : (n : ℕ) (b : Buffer)
      → record (formed_to masks mongolian after joining n b).0 { items = b.items; scratch_flags = b.scratch_flags } ≡ b
  formed-rest zero b = refl
  formed-rest (suc i) b = formed-rest i b

pub formed-alone : (masks : FormMasks) (mongolian : Bool) (b : Buffer) → ChangesMasksAlone b (formed masks mongolian b)
formed-alone masks mongolian b =
    let after = kind_after b.post_context in
    let joining = begun (kind_before b.pre_context) in
    record {
      items = formed-items masks mongolian after joining (length b.items) b;
      scratch = inl (ap (λ s. s.0) (formed-scratch masks mongolian after joining (length b.items) b));
      rest = formed-rest masks mongolian after joining (length b.items) b;
    }
