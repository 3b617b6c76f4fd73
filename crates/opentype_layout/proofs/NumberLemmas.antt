-- at most three tags as numbers
use Rattle.std.proofs.Common.{◌≡◌, ◌≤◌, List, [], ◌∷◌, take, length, refl, arith}
use Rattle.shape_common.specs.declared.text_types.hb_tag_t.{hb_tag_t}
use Rattle.opentype_layout.specs.Chosen.{numbers_of, number_at}

pub numbers_are : (tags : List hb_tag_t) → length tags ≤ 3
    → take (length tags) (number_at tags 0 ∷ number_at tags 1 ∷ number_at tags 2 ∷ []) ≡ numbers_of tags
numbers_are [] few = refl
numbers_are (a ∷ []) few = refl
numbers_are (a ∷ b ∷ []) few = refl
numbers_are (a ∷ b ∷ c ∷ []) few = refl
numbers_are (a ∷ b ∷ c ∷ d ∷ more) few = absurd (omega arith)
