use Rattle.std.proofs.Common.{slice_index_or, List, ℕ, ap₂, ◌∙◌}
use Rattle.letter_joining.proofs.FormMaskLemmas.{mask_at}
use Rattle.letter_joining.proofs.forms.form_mask.Goals as goal

pub returns : goal.returns
returns c =
    ap₂ (λ (xs : List ℕ) (n : ℕ). slice_index_or xs n 0) c.requires c.form_place.ensures.value
    ∙ mask_at c.args.forming.now.masks c.args.form
