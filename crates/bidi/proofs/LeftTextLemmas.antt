-- A text in which nothing is right to left has one level.
use Rattle.std.proofs.Common.{◌≡◌, ℕ, true, false, Option, None, Some, List, [], ◌∷◌, ◌++◌, length, replicate, refl, subst, sym, inl, inr, if◌then◌else◌}
use Rattle.std.specs.List.{list_all}
use Rattle.std.proofs.lemmas.Bool.{cases_Bool, cond-true, cond-false}
use Rattle.ucd_bidi.specs.declared.BidiClass.{BidiClass}
use Rattle.ucd_bidi.specs.declared.BidiClass.TheVariants as class
use Rattle.bidi.specs.Explicit.{first_is_right}
use Rattle.bidi.specs.Left.{is_left}
use Rattle.bidi.specs.Levels.{classes_of, is_right}
use Rattle.bidi.specs.Text.{ends_paragraph, last_part, levels_in, levels_of, part_levels, parts_from, text_levels}
use Rattle.bidi.specs.declared.levels.Direction.{Direction}
use Rattle.bidi.specs.declared.levels.Direction.TheVariants.{LeftToRight}
use Rattle.bidi.proofs.LeftClassLemmas.{AllTrue}
use Rattle.bidi.proofs.LeftLemmas.{AllZero, all_true, all_zero, zeros}
use Rattle.bidi.proofs.LevelLemmas.{length_text}

-- P2, P3: the paragraph is left to right
first_left : (cs : List BidiClass) → AllTrue is_left cs → first_is_right true 0 cs ≡ false
first_left [] h = refl
first_left (class.LeftToRight ∷ cs) h = refl
first_left (class.RightToLeft ∷ cs) h = let wrong = h.0 in cc
first_left (class.ArabicLetter ∷ cs) h = let wrong = h.0 in cc
first_left (class.LeftToRightIsolate ∷ cs) h = let wrong = h.0 in cc
first_left (class.RightToLeftIsolate ∷ cs) h = let wrong = h.0 in cc
first_left (class.FirstStrongIsolate ∷ cs) h = let wrong = h.0 in cc
first_left (class.PopDirectionalIsolate ∷ cs) h = let wrong = h.0 in cc
first_left (_ ∷ cs) h = first_left cs h.1

abbrev AreLeft : List ℕ → Type 0
AreLeft text = AllTrue is_left (classes_of text)

append_left : (part more : List ℕ) → AreLeft part → AreLeft more → AreLeft (part ++ more)
append_left [] more h k = k
append_left (c ∷ part) more h k = (h.0, append_left part more h.1 k)

append_zero : (xs ys : List ℕ) → AllZero xs → AllZero ys → AllZero (xs ++ ys)
append_zero [] ys h k = k
append_zero (x ∷ xs) ys h k = (h.0, append_zero xs ys h.1 k)

module _ (base : Option Direction) (left : (cs : List BidiClass) → AllTrue is_left cs → is_right base cs ≡ false) where
  part_zero : (part : List ℕ) → AreLeft part → AllZero (part_levels base part)
  part_zero part h =
      subst (λ right. AllZero (levels_in (if right then 1 else 0) part (classes_of part))) (sym (left (classes_of part) h))
      (all_zero part (classes_of part) h)

  last_zero : (part : List ℕ) → AreLeft part → AllZero (levels_of base (last_part part))
  last_zero [] h = tt
  last_zero (c ∷ part) h = append_zero (part_levels base (c ∷ part)) [] (part_zero (c ∷ part) h) tt

  parts_zero : (part text : List ℕ) → AreLeft part → AreLeft text → AllZero (levels_of base (parts_from part text))
  parts_zero part [] h k = last_zero part h
  parts_zero part (c ∷ text) h k =
      let one = append_left part (c ∷ []) h (k.0, tt) in
      elim (cases_Bool (ends_paragraph c text)) [
        | inl on ↦ subst (λ l. AllZero (levels_of base l)) (sym (cond-true (ends_paragraph c text) ((part ++ c ∷ []) ∷ parts_from [] text) (parts_from (part ++ c ∷ []) text) on))
            (append_zero (part_levels base (part ++ c ∷ [])) (levels_of base (parts_from [] text)) (part_zero (part ++ c ∷ []) one) (parts_zero [] text tt k.1))
        | inr off ↦ subst (λ l. AllZero (levels_of base l)) (sym (cond-false (ends_paragraph c text) ((part ++ c ∷ []) ∷ parts_from [] text) (parts_from (part ++ c ∷ []) text) off))
            (parts_zero (part ++ c ∷ []) text one k.1)
      ]

  text_zero : (text : List ℕ) → list_all is_left (classes_of text) ≡ true → text_levels base text ≡ replicate (length text) 0
  text_zero text all =
      zeros (text_levels base text) (length text) (length_text base text)
      (parts_zero [] text tt (all_true is_left (classes_of text) all))

pub one_level : (text : List ℕ) → list_all is_left (classes_of text) ≡ true
    → (text_levels None text ≡ replicate (length text) 0) × (text_levels (Some LeftToRight) text ≡ replicate (length text) 0)
one_level text all = (text_zero None first_left text all, text_zero (Some LeftToRight) (λ cs h. refl) text all)
