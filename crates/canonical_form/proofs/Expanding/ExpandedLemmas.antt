-- The expanded list keeps Full, goes from items to their characters, and may be cut before an item that is no mark.
use Rattle.std.proofs.Common.{◌≡◌, Bool, true, false, ◌&&◌, ◌||◌, not, List, [], ◌∷◌, ◌++◌, map, flat_map, refl, sym, ap, ap₂, ◌∙◌, append_assoc}
use Rattle.std.proofs.lemmas.Grind.{flat_map-append}
use Rattle.std.proofs.lemmas.List.{map-append}
use Rattle.std.specs.List.{AllByRecursion}
use Rattle.canonical_form.specs.Expanded.{begins_with_mark, expanded_from, expanded_in_sequences}

module _ {A B : Type 0} (is_mark : A → Bool) (become : Bool → A → List B) where
  -- if nothing depends on the sequence, each item becomes what it does by itself
  expanded_from-plain : (by_itself : A → List B) → ((with_marks : Bool) (x : A) → become with_marks x ≡ by_itself x)
      → (first : Bool) (xs : List A) → expanded_from is_mark become first xs ≡ flat_map by_itself xs
  expanded_from-plain by_itself same first [] = refl
  expanded_from-plain by_itself same first (x ∷ xs) =
      ap₂ ◌++◌ (same ((is_mark x && not first) || begins_with_mark is_mark xs) x) (expanded_from-plain by_itself same false xs)

  pub expanded-plain : (by_itself : A → List B) → ((with_marks : Bool) (x : A) → become with_marks x ≡ by_itself x)
      → (xs : List A) → expanded_in_sequences is_mark become xs ≡ flat_map by_itself xs
  expanded-plain by_itself same xs = expanded_from-plain by_itself same true xs

  -- if what each item becomes has the parts of the item, the expanded list has those of the list
  expanded_from-parts : {C : Type 0} (parts : B → List C) (whole : A → List C)
      → ((with_marks : Bool) (x : A) → flat_map parts (become with_marks x) ≡ whole x) → (first : Bool) (xs : List A)
      → flat_map parts (expanded_from is_mark become first xs) ≡ flat_map whole xs
  expanded_from-parts parts whole preserves first [] = refl
  expanded_from-parts parts whole preserves first (x ∷ xs) =
      let flag = (is_mark x && not first) || begins_with_mark is_mark xs in
      flat_map-append parts (become flag x) (expanded_from is_mark become false xs)
      ∙ ap₂ ◌++◌ (preserves flag x) (expanded_from-parts parts whole preserves false xs)

  pub expanded-parts : {C : Type 0} (parts : B → List C) (whole : A → List C)
      → ((with_marks : Bool) (x : A) → flat_map parts (become with_marks x) ≡ whole x) → (xs : List A)
      → flat_map parts (expanded_in_sequences is_mark become xs) ≡ flat_map whole xs
  expanded-parts parts whole preserves xs = expanded_from-parts parts whole preserves true xs

  -- if the first item is no mark, it makes no difference whether it counts as the first of the list
  first_alike : (xs : List A) → begins_with_mark is_mark xs ≡ false → (first : Bool)
      → expanded_from is_mark become first xs ≡ expanded_from is_mark become true xs
  first_alike [] none first = refl
  first_alike (x ∷ xs) none first =
      ap (λ flag. become (flag || begins_with_mark is_mark xs) x ++ expanded_from is_mark become false xs)
      (ap (λ t. t && not first) none ∙ sym (ap (λ t. t && not true) none))

  begins_alike : (x : A) (xs ys : List A) → begins_with_mark is_mark ys ≡ false
      → begins_with_mark is_mark (xs ++ ys) ≡ begins_with_mark is_mark xs
  begins_alike x [] ys none = none
  begins_alike x (z ∷ xs) ys none = refl

  cut_from : (first : Bool) (xs ys : List A) → begins_with_mark is_mark ys ≡ false
      → expanded_from is_mark become first (xs ++ ys)
      ≡ expanded_from is_mark become first xs ++ expanded_from is_mark become true ys
  cut_from first [] ys none = first_alike ys none first
  cut_from first (x ∷ xs) ys none =
      ap₂ (λ t rest. become ((is_mark x && not first) || t) x ++ rest) (begins_alike x xs ys none) (cut_from false xs ys none)
      ∙ sym (append_assoc (become ((is_mark x && not first) || begins_with_mark is_mark xs) x)
      (expanded_from is_mark become false xs) (expanded_from is_mark become true ys))

  -- before an item that is no mark the list may be cut, and its parts expanded each by itself
  pub expanded-cut : (xs ys : List A) → begins_with_mark is_mark ys ≡ false
      → expanded_in_sequences is_mark become (xs ++ ys)
      ≡ expanded_in_sequences is_mark become xs ++ expanded_in_sequences is_mark become ys
  expanded-cut xs ys none = cut_from true xs ys none

-- from items to their characters: if the marks and what an item becomes agree, so does the expanded list
module _ {A B C D : Type 0} (IsItem : A → Type 0) (f : A → C) (g : B → D) (is_mark : A → Bool) (is_mark' : C → Bool)
    (become : Bool → A → List B) (become' : Bool → C → List D) (marks : (x : A) → IsItem x → is_mark' (f x) ≡ is_mark x)
    (becomes : (with_marks : Bool) (x : A) → IsItem x → map g (become with_marks x) ≡ become' with_marks (f x)) where
  begins-map : (xs : List A) → AllByRecursion IsItem xs → begins_with_mark is_mark' (map f xs) ≡ begins_with_mark is_mark xs
  begins-map [] items = refl
  begins-map (x ∷ xs) items = marks x items.0

  expanded_from-map : (first : Bool) (xs : List A) → AllByRecursion IsItem xs
      → map g (expanded_from is_mark become first xs) ≡ expanded_from is_mark' become' first (map f xs)
  expanded_from-map first [] items = refl
  expanded_from-map first (x ∷ xs) items =
      let flag = (is_mark x && not first) || begins_with_mark is_mark xs in
      map-append g (become flag x) (expanded_from is_mark become false xs)
      ∙ ap₂ ◌++◌
      (becomes flag x items.0 ∙ ap₂ (λ s t. become' ((s && not first) || t) (f x)) (sym (marks x items.0))
      (sym (begins-map xs items.1)))
      (expanded_from-map false xs items.1)

  pub expanded-map : (xs : List A) → AllByRecursion IsItem xs
      → map g (expanded_in_sequences is_mark become xs) ≡ expanded_in_sequences is_mark' become' (map f xs)
  expanded-map xs items = expanded_from-map true xs items
