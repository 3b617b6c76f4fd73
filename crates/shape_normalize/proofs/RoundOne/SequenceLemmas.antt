-- Sequences: what holds of a list holds of its parts, and an item stands in a sequence with marks exactly when a mark
-- of the list stands at it.
use Rattle.std.proofs.Common.{◌≡◌, Bool, true, false, if◌then◌else◌, ◌&&◌, ◌||◌, List, [], ◌∷◌, ◌++◌, map, flat_map, refl, sym, ap, ap₂, ◌∙◌, inl, inr, append_assoc, append-nil}
use Rattle.std.proofs.lemmas.Bool.{cases_Bool, and_right, or_right}
use Rattle.std.specs.List.{AllByRecursion}
use Rattle.canonical_form.proofs.Lists.EveryLemmas.{append_all}
use Rattle.canonical_form.specs.Divided.{put_first, divided}
use Rattle.canonical_form.proofs.Lists.DividedLemmas.{divided-joins, divided-parts, divided-begins}
use Rattle.canonical_form.specs.Expanded.{begins_with_mark, expanded_from, expanded_in_sequences}
use Rattle.shape_items.specs.Items.{Item, is_mark_item}
use Rattle.shape_normalize.specs.RoundOne.{sequences, is_with_marks}

-- what holds of all that each item becomes holds of all that the list becomes
pub flat_map_all : {A B : Type 0} (P : A → Type 0) (Q : B → Type 0) (become : A → List B) → ((x : A) → P x → AllByRecursion Q (become x))
    → (items : List A) → AllByRecursion P items → AllByRecursion Q (flat_map become items)
flat_map_all P Q become preserves [] each = tt
flat_map_all P Q become preserves (x ∷ items) each =
    append_all Q (become x) (flat_map become items) (preserves x each.0) (flat_map_all P Q become preserves items each.1)

-- items that become alike make lists that become alike
pub flat_map_same : {A B : Type 0} (f g : A → List B) (items : List A) → AllByRecursion (λ x. f x ≡ g x) items
    → flat_map f items ≡ flat_map g items
flat_map_same f g [] same = refl
flat_map_same f g (x ∷ items) same = ap₂ ◌++◌ same.0 (flat_map_same f g items same.1)

-- what holds of each of some values holds of the items that they are values of, and the other way round
pub each_of_values : {A B : Type 0} (f : A → B) (P : B → Type 0) (items : List A) → AllByRecursion P (map f items)
    → AllByRecursion (λ x. P (f x)) items
each_of_values f P [] each = tt
each_of_values f P (x ∷ items) each = (each.0, each_of_values f P items each.1)

pub each_value : {A B : Type 0} (f : A → B) (P : B → Type 0) (items : List A) → AllByRecursion (λ x. P (f x)) items
    → AllByRecursion P (map f items)
each_value f P [] each = tt
each_value f P (x ∷ items) each = (each.0, each_value f P items each.1)

-- what holds if something else does, item by item
pub each_weaker : {A : Type 0} (P Q : A → Type 0) → ((x : A) → P x → Q x) → (items : List A) → AllByRecursion P items
    → AllByRecursion Q items
each_weaker P Q weaker [] each = tt
each_weaker P Q weaker (x ∷ items) each = (weaker x each.0, each_weaker P Q weaker items each.1)

module _ {A : Type 0} (belongs : A → Bool) where
  -- what holds of each item of a list holds of each item of its parts
  module _ (P : A → Type 0) where
    put_first_all : (x : A) (parts : List (List A)) → P x → AllByRecursion (AllByRecursion P) parts
        → AllByRecursion (AllByRecursion P) (put_first x parts)
    put_first_all x [] here each = ((here, tt), tt)
    put_first_all x (part ∷ parts) here each = ((here, each.0), each.1)

    pub each_part : (items : List A) → AllByRecursion P items → AllByRecursion (AllByRecursion P) (divided belongs items)
    each_part [] each = tt
    each_part (x ∷ []) each = ((each.0, tt), tt)
    each_part (x ∷ y ∷ rest) each =
        elim (belongs y) as (λ t. AllByRecursion (AllByRecursion P)
        (if t then put_first x (divided belongs (y ∷ rest)) else (x ∷ []) ∷ divided belongs (y ∷ rest))) [
          | true ↦ put_first_all x (divided belongs (y ∷ rest)) each.0 (each_part (y ∷ rest) each.1)
          | false ↦ ((each.0, tt), each_part (y ∷ rest) each.1)
        ]

  -- what holds of all that each part becomes holds of all that the list becomes
  pub flat_map_parts_all : {B : Type 0} (P : A → Type 0) (Q : B → Type 0) (become : List A → List B)
      → ((part : List A) → AllByRecursion P part → AllByRecursion Q (become part)) → (items : List A) → AllByRecursion P items
      → AllByRecursion Q (flat_map become (divided belongs items))
  flat_map_parts_all P Q become preserves items each =
      flat_map_all (λ part. AllByRecursion P part) Q become preserves (divided belongs items) (each_part P items each)

-- ---- sequences

module _ {B : Type 0} (become : Bool → Item → List B) where
  -- what a sequence becomes, each item of it by whether the sequence has marks
  abbrev pub sequence_becomes : List Item → List B
  sequence_becomes sequence = flat_map (become (is_with_marks sequence)) sequence

  -- the same after an item that stands before the first of these sequences, in one sequence with it
  abbrev after_becomes : List (List Item) → List B
  after_becomes [] = []
  after_becomes (part ∷ parts) = flat_map (become true) part ++ flat_map sequence_becomes parts

  abbrev from : Bool → List Item → List B
  from first items = expanded_from is_mark_item become first items

  after-put_first : (x : Item) (parts : List (List Item)) → after_becomes (put_first x parts) ≡ become true x ++ after_becomes parts
  after-put_first x [] = append-nil (become true x ++ [])
  after-put_first x (part ∷ parts) = append_assoc (become true x) (flat_map (become true) part) (flat_map sequence_becomes parts)

  -- in a sequence of two items or more each is with marks
  sequence-put_first : (x y : Item) (part : List Item) (parts : List (List Item))
      → flat_map sequence_becomes (put_first x ((y ∷ part) ∷ parts)) ≡ become true x ++ after_becomes ((y ∷ part) ∷ parts)
  sequence-put_first x y part parts = append_assoc (become true x) (flat_map (become true) (y ∷ part)) (flat_map sequence_becomes parts)

  -- if an item is no mark, it makes no difference whether it counts as the first
  first_or_not : (x : Item) (rest : List Item) → is_mark_item x ≡ false → from true (x ∷ rest) ≡ from false (x ∷ rest)
  first_or_not x rest unmarked =
      let after = begins_with_mark is_mark_item rest in
      ap (λ t. become ((t && false) || after) x ++ from false rest) unmarked
      ∙ sym (ap (λ t. become ((t && true) || after) x ++ from false rest) unmarked)

  by_sequences : (x : Item) (rest : List Item)
      → (flat_map sequence_becomes (sequences (x ∷ rest)) ≡ from true (x ∷ rest))
      × (is_mark_item x ≡ true → after_becomes (sequences (x ∷ rest)) ≡ from false (x ∷ rest))
  by_sequences x [] = (
    append-nil (become false x ++ []) ∙ ap (λ t. become (t || false) x ++ []) (sym (and_right (is_mark_item x) false refl)),
    λ mark. append-nil (become true x ++ []) ∙ ap (λ t. become ((t && true) || false) x ++ []) (sym mark),
  )
  by_sequences x (y ∷ rest) =
      let later = by_sequences y rest in
      elim (cases_Bool (is_mark_item y)) [
        | inl joins ↦
            let begins = divided-begins is_mark_item y rest in
            let behind : after_becomes (sequences (y ∷ rest)) ≡ from false (y ∷ rest) = later.1 joins in (
              ap (flat_map sequence_becomes) (divided-joins is_mark_item x y rest joins ∙ ap (put_first x) begins.2)
                  ∙ sequence-put_first x y begins.0 begins.1
                  ∙ ap (λ l. become true x ++ l) (ap after_becomes (sym begins.2) ∙ behind)
                  ∙ ap (λ t. become t x ++ from false (y ∷ rest)) (sym (or_right (is_mark_item x && false) (is_mark_item y) joins)),
              λ mark.
                  ap after_becomes (divided-joins is_mark_item x y rest joins)
                  ∙ after-put_first x (sequences (y ∷ rest))
                  ∙ ap (λ l. become true x ++ l) behind
                  ∙ ap (λ t. become t x ++ from false (y ∷ rest)) (sym (or_right (is_mark_item x && true) (is_mark_item y) joins)),
            )
        | inr parts ↦
            let tail : flat_map sequence_becomes (sequences (y ∷ rest)) ≡ from false (y ∷ rest) = later.0 ∙ first_or_not y rest parts in (
              ap (flat_map sequence_becomes) (divided-parts is_mark_item x y rest parts)
                  ∙ ap₂ (λ front back. front ++ back) (append-nil (become false x)) tail
                  ∙ ap₂ (λ s t. become (s || t) x ++ from false (y ∷ rest)) (sym (and_right (is_mark_item x) false refl)) (sym parts),
              λ mark.
                  ap after_becomes (divided-parts is_mark_item x y rest parts)
                  ∙ ap₂ (λ front back. front ++ back) (append-nil (become true x)) tail
                  ∙ ap (λ t. become ((t && true) || is_mark_item y) x ++ from false (y ∷ rest)) (sym mark),
            )
      ]

  -- so each item is with marks exactly when a mark follows it, or it is one itself and not the first
  pub sequences-expanded : (items : List Item)
      → flat_map sequence_becomes (sequences items) ≡ expanded_in_sequences is_mark_item become items
  sequences-expanded [] = refl
  sequences-expanded (x ∷ rest) = (by_sequences x rest).0
