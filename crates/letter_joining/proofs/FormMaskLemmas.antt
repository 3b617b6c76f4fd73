-- Masks by the places of forms.
use Rattle.std.proofs.Common.{◌≡◌, slice_index_or, refl}
use Rattle.letter_joining.specs.Joining.{form_number}
use Rattle.letter_joining.specs.Forms.{mask_list, form_mask}
use Rattle.letter_joining.specs.declared.joining.Form.{Form}
use Rattle.letter_joining.specs.declared.joining.Form.TheVariants as form
use Rattle.letter_joining.specs.declared.forms.FormMasks.{FormMasks}

pub mask_at : (masks : FormMasks) (f : Form) → slice_index_or (mask_list masks) (form_number f) 0 ≡ form_mask masks f
mask_at masks form.None = refl
mask_at masks form.Isol = refl
mask_at masks form.Fina = refl
mask_at masks form.Fin2 = refl
mask_at masks form.Fin3 = refl
mask_at masks form.Medi = refl
mask_at masks form.Med2 = refl
mask_at masks form.Init = refl
