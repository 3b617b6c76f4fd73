-- The categories of marks by their numbers.
use Rattle.std.proofs.Common.{◌≡◌, ℕ, zero, suc, nat_le, Bool, true, false, List, [], ◌∷◌, drop, get_or, refl, sym, arith}
use Rattle.std.specs.Prelude.{◌&&◌, not}
use Rattle.std.proofs.lemmas.Bool.{and_parts}
use Rattle.std.proofs.lemmas.Bool.Decides.{nat_tests}
use Rattle.std.specs.List.{list_all}
use Rattle.shape_common.specs.Category.{is_mark_category}
use Rattle.shape_common.specs.CategoryNumber.{category_of, categories}
use Rattle.shape_common.specs.declared.general_category.hb_unicode_general_category_t.{hb_unicode_general_category_t}
use Rattle.shape_common.specs.declared.general_category.hb_unicode_general_category_t.TheVariants.{Unassigned}

unmarked : (b : Bool) → not b ≡ true → b ≡ false
unmarked true is = sym is
unmarked false is = refl

-- if none of some categories is one of marks, none at any place of their list is
none_at : (cs : List hb_unicode_general_category_t) (place : ℕ) → list_all (λ c. not (is_mark_category c)) cs ≡ true
    → is_mark_category (get_or cs place Unassigned) ≡ false
none_at [] place none = refl
none_at (c ∷ cs) zero none = unmarked (is_mark_category c) (and_parts (not (is_mark_category c)) _ none).0
none_at (c ∷ cs) (suc place) none = none_at cs place (and_parts (not (is_mark_category c)) _ none).1

pub mark_by_number : (n : ℕ) → is_mark_category (category_of n) ≡ (nat_le 5 n && nat_le n 7)
mark_by_number zero = refl
mark_by_number (suc zero) = refl
mark_by_number (suc (suc zero)) = refl
mark_by_number (suc (suc (suc zero))) = refl
mark_by_number (suc (suc (suc (suc zero)))) = refl
mark_by_number (suc (suc (suc (suc (suc zero))))) = refl
mark_by_number (suc (suc (suc (suc (suc (suc zero)))))) = refl
mark_by_number (suc (suc (suc (suc (suc (suc (suc zero))))))) = refl
mark_by_number (suc (suc (suc (suc (suc (suc (suc (suc n)))))))) =
    let big : nat_le (suc (suc (suc (suc (suc (suc (suc (suc n)))))))) 7 ≡ false = grind (arith, nat_tests) in
    let past : nat_le 5 (suc (suc (suc (suc (suc (suc (suc (suc n)))))))) ≡ true = grind (arith, nat_tests) in
    rw (big, past) (none_at (drop 8 categories) n refl)
