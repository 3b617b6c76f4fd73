-- The rule P1: a text and its paragraphs, one character and one paragraph on.
use Rattle.std.proofs.Common.{◌≡◌, ℕ, zero, suc, ◌+◌, ◌-◌, ◌<◌, ◌≤◌, true, false, Option, List, [], ◌∷◌, ◌++◌, length, get_or, take, drop, refl, ap, ap₂, subst, sym, ◌∙◌, append_assoc, arith, length-drop}
use Rattle.std.proofs.lemmas.Bool.{cond-true, cond-false}
use Rattle.std.proofs.lemmas.List.{drop_more, take_more, get_or-drop, length-take-le}
use Rattle.ucd_bidi.specs.BidiClass.{bidi_class}
use Rattle.ucd_bidi.specs.declared.BidiClass.TheVariants.{ArabicLetter}
use Rattle.bidi.specs.Text.{ends_paragraph, last_part, level_in, levels_of, paragraphs_of, part_levels, parts_from, parts_of}
use Rattle.bidi.specs.Levels.{classes_of}
use Rattle.bidi.specs.declared.levels.Direction.{Direction}
use Rattle.bidi.specs.declared.text.Paragraph.{Paragraph}

-- ---- classes of parts

pub class_at_place : (text : List ℕ) (n : ℕ) → n < length text → get_or (classes_of text) n ArabicLetter ≡ bidi_class (get_or text n 0)
class_at_place [] n lt = absurd (omega arith)
class_at_place (c ∷ text) zero lt = refl
class_at_place (c ∷ text) (suc n) lt = class_at_place text n (omega arith)

classes_take : (text : List ℕ) (n : ℕ) → take n (classes_of text) ≡ classes_of (take n text)
classes_take text zero = refl
classes_take [] (suc n) = refl
classes_take (c ∷ text) (suc n) = ap (λ l. bidi_class c ∷ l) (classes_take text n)

classes_drop : (text : List ℕ) (n : ℕ) → drop n (classes_of text) ≡ classes_of (drop n text)
classes_drop text zero = refl
classes_drop [] (suc n) = refl
classes_drop (c ∷ text) (suc n) = classes_drop text n

pub classes_part : (text : List ℕ) (start count : ℕ) → take count (drop start (classes_of text)) ≡ classes_of (take count (drop start text))
classes_part text start count = ap (take count) (classes_drop text start) ∙ classes_take (drop start text) count

-- ---- a paragraph

nonempty_part : (part : List ℕ) → 0 < length part → last_part part ≡ part ∷ []
nonempty_part [] lt = absurd (omega arith)
nonempty_part (c ∷ part) lt = refl

-- what is before a place, one character on
more_before : (text : List ℕ) (start n : ℕ) → start ≤ n → n < length text
    → take (n + 1 - start) (drop start text) ≡ take (n - start) (drop start text) ++ get_or text n 0 ∷ []
more_before text start n le lt =
    let one : n + 1 - start ≡ n - start + 1 = omega arith in
    let sum : start + (n - start) ≡ n = omega arith in
    let left : n - start < length (drop start text) = subst (λ k. n - start < k) (sym (length-drop start text)) (omega arith) in
    ap (λ k. take k (drop start text)) one ∙ take_more (drop start text) (n - start) 0 left
    ∙ ap (λ c. take (n - start) (drop start text) ++ c ∷ []) (get_or-drop start text (n - start) 0 ∙ ap (λ k. get_or text k 0) sum)

module _ (text : List ℕ) (start n : ℕ) (le : start ≤ n) (lt : n < length text)
    (same : parts_from (take (n - start) (drop start text)) (drop n text) ≡ parts_of (drop start text)) where
  here : parts_from (take (n - start) (drop start text)) (get_or text n 0 ∷ drop (n + 1) text) ≡ parts_of (drop start text)
  here = sym (ap (parts_from (take (n - start) (drop start text))) (drop_more text n 0 lt)) ∙ same

  pub part_goes_on : ends_paragraph (get_or text n 0) (drop (n + 1) text) ≡ false
      → parts_from (take (n + 1 - start) (drop start text)) (drop (n + 1) text) ≡ parts_of (drop start text)
  part_goes_on off =
      ap (λ l. parts_from l (drop (n + 1) text)) (more_before text start n le lt)
      ∙ sym (cond-false (ends_paragraph (get_or text n 0) (drop (n + 1) text)) _ _ off) ∙ here

  pub part_ends : ends_paragraph (get_or text n 0) (drop (n + 1) text) ≡ true
      → parts_of (drop start text) ≡ take (n + 1 - start) (drop start text) ∷ parts_of (drop (n + 1) text)
  part_ends on =
      sym here ∙ cond-true (ends_paragraph (get_or text n 0) (drop (n + 1) text)) _ _ on
      ∙ ap (λ l. l ∷ parts_of (drop (n + 1) text)) (sym (more_before text start n le lt))

drop_to_end : (xs : List ℕ) → drop (length xs) xs ≡ []
drop_to_end [] = refl
drop_to_end (x ∷ xs) = drop_to_end xs

pub part_is_last : (text : List ℕ) (start n : ℕ) → start < length text → n ≡ length text
    → parts_from (take (n - start) (drop start text)) (drop n text) ≡ parts_of (drop start text)
    → parts_of (drop start text) ≡ take (length text - start) (drop start text) ∷ parts_of (drop (length text) text)
part_is_last text start n lt e same =
    let all : length (take (length text - start) (drop start text)) ≡ length text - start =
    length-take-le (length text - start) (drop start text) (omega (arith, length-drop start text)) in
    let some : 0 < length (take (length text - start) (drop start text)) = omega (arith, all) in
    sym (subst (λ k. parts_from (take (k - start) (drop start text)) (drop k text) ≡ parts_of (drop start text)) e same)
    ∙ ap (parts_from (take (length text - start) (drop start text))) (drop_to_end text)
    ∙ nonempty_part (take (length text - start) (drop start text)) some
    ∙ ap (λ l. take (length text - start) (drop start text) ∷ l) (sym (ap parts_of (drop_to_end text)))

-- ---- the levels, one paragraph on

pub levels_next : (base : Option Direction) (done part : List ℕ) (rest parts : List (List ℕ)) → parts ≡ part ∷ rest
    → (done ++ part_levels base part) ++ levels_of base rest ≡ done ++ levels_of base parts
levels_next base done part rest parts e =
    append_assoc done (part_levels base part) (levels_of base rest) ∙ ap (λ l. done ++ levels_of base l) (sym e)

pub paragraphs_next : (base : Option Direction) (start «end» level : ℕ) (done : List Paragraph) (part : List ℕ) (rest parts : List (List ℕ))
    → parts ≡ part ∷ rest → start + length part ≡ «end» → level ≡ level_in base part
    → (done ++ record { end = «end»; level = level } ∷ []) ++ paragraphs_of base «end» rest ≡ done ++ paragraphs_of base start parts
paragraphs_next base start «end» level done part rest parts e long is_level =
    append_assoc done (record { end = «end»; level = level } ∷ []) (paragraphs_of base «end» rest)
    ∙ ap₂ (λ k l. done ++ record { end = k; level = l } ∷ paragraphs_of base k rest) (sym long) is_level
    ∙ ap (λ l. done ++ paragraphs_of base start l) (sym e)
