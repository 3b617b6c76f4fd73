-- A list divided into parts: part by part, and its parts together.
use Rattle.std.proofs.Common.{◌≡◌, ℕ, ◌+◌, Bool, true, false, if◌then◌else◌, cond, List, [], ◌∷◌, ◌++◌, map, length, inl, inr, take, drop, sum_by, refl, sym, ap, ap₂, ◌∙◌, arith, one-add}
use Rattle.std.specs.List.{flat_map, prefix_len}
use Rattle.std.proofs.lemmas.Bool.{cases_Bool}
use Rattle.std.proofs.lemmas.List.{length-take, length-drop, length-map, map-append}
use Rattle.std.proofs.lemmas.List.Concat.{length-flat_map}
use Rattle.std.proofs.lemmas.List.Sums.{prefix_len-le-length}
use Rattle.canonical_form.specs.Divided.{divided, put_first, IsFirstPart}

-- the parts one after the other
abbrev pub whole : {A : Type 0} → List (List A) → List A
whole parts = flat_map (λ part. part) parts

values-whole : {A B : Type 0} (h : A → B) (parts : List (List A)) → flat_map (map h) parts ≡ map h (whole parts)
values-whole h [] = refl
values-whole h (part ∷ parts) = ap (λ l. map h part ++ l) (values-whole h parts) ∙ sym (map-append h part (whole parts))

module _ {A : Type 0} (belongs : A → Bool) where
  pub divided-joins : (x y : A) (rest : List A) → belongs y ≡ true
      → divided belongs (x ∷ y ∷ rest) ≡ put_first x (divided belongs (y ∷ rest))
  divided-joins x y rest joins = rw joins refl

  pub divided-parts : (x y : A) (rest : List A) → belongs y ≡ false
      → divided belongs (x ∷ y ∷ rest) ≡ (x ∷ []) ∷ divided belongs (y ∷ rest)
  divided-parts x y rest parts = rw parts refl

  -- the first part is the first item with the items directly after it that belong
  divided-first : (x : A) (rest : List A)
      → divided belongs (x ∷ rest) ≡ (x ∷ take (prefix_len belongs rest) rest) ∷ divided belongs
      (drop (prefix_len belongs rest) rest)
  divided-first x [] = refl
  divided-first x (y ∷ rest) =
      elim (belongs y) as (λ t. (if t then put_first x (divided belongs (y ∷ rest)) else (x ∷ []) ∷ divided belongs (y ∷ rest))
      ≡ (x ∷ take (cond t (1 + prefix_len belongs rest) 0) (y ∷ rest)) ∷ divided belongs
      (drop (cond t (1 + prefix_len belongs rest) 0) (y ∷ rest))) [
        | true ↦ rw one-add (ap (put_first x) (divided-first y rest))
        | false ↦ refl
      ]

  -- a list that isn't empty begins with a part that begins with its first item
  pub divided-begins : (x : A) (rest : List A)
      → (part : List A) × (parts : List (List A)) × (divided belongs (x ∷ rest) ≡ (x ∷ part) ∷ parts)
  divided-begins x rest =
      let n = prefix_len belongs rest in (take n rest, divided belongs (drop n rest), divided-first x rest)

  -- a list that is cut after its first item and the items directly after it that belong
  pub IsFirstPart-at : (xs : List A) (x : A) (rest part behind : List A) (n : ℕ) → xs ≡ x ∷ rest → n ≡ prefix_len belongs rest
      → part ≡ take (1 + n) xs → behind ≡ drop (1 + n) xs → IsFirstPart belongs xs part behind
  IsFirstPart-at xs x rest part behind n begins counted front back =
      let whole : take (1 + n) xs ≡ x ∷ take (prefix_len belongs rest) rest = rw (begins, counted, one-add) refl in
      let left : drop (1 + n) xs ≡ drop (prefix_len belongs rest) rest = rw (begins, counted, one-add) refl in
      let few = prefix_len-le-length belongs rest in
      let front_length = ap length (front ∙ whole) in
      let back_length = ap length (back ∙ left) in
      let full = ap length begins in
      record {
        first = ap (divided belongs) begins ∙ divided-first x rest
            ∙ ap₂ (λ a b. a ∷ divided belongs b) (sym (front ∙ whole)) (sym (back ∙ left));
        some = omega (arith, front_length);
        whole = omega (
          arith,
          front_length,
          back_length,
          full,
          length-take (prefix_len belongs rest) rest,
          length-drop
              (prefix_len belongs rest) rest,
        );
      }

  whole-put_first : (x : A) (parts : List (List A)) → whole (put_first x parts) ≡ x ∷ whole parts
  whole-put_first x [] = refl
  whole-put_first x (part ∷ parts) = refl

  -- the parts together are the list
  pub whole-divided : (xs : List A) → whole (divided belongs xs) ≡ xs
  whole-divided [] = refl
  whole-divided (x ∷ []) = refl
  whole-divided (x ∷ y ∷ rest) =
      let later = whole-divided (y ∷ rest) in
      elim (cases_Bool (belongs y)) [
        | inl joins ↦ rw joins (whole-put_first x (divided belongs (y ∷ rest)) ∙ ap (λ l. x ∷ l) later)
        | inr begins ↦ rw begins (ap (λ l. x ∷ l) later)
      ]

  -- so the values of the items of the parts are those of the list
  pub values-divided : {B : Type 0} (h : A → B) (xs : List A) → flat_map (map h) (divided belongs xs) ≡ map h xs
  values-divided h xs = values-whole h (divided belongs xs) ∙ ap (map h) (whole-divided xs)

  -- and the parts are as long as the list
  pub lengths-divided : (xs : List A) → sum_by length (divided belongs xs) ≡ length xs
  lengths-divided xs = sym (length-flat_map (λ part. part) (divided belongs xs)) ∙ ap length (whole-divided xs)

  -- the test may be asked of each item first: its results are divided as the items are
  bits-divided : (xs : List A) → divided (λ b. b) (map belongs xs) ≡ map (map belongs) (divided belongs xs)
  bits-divided [] = refl
  bits-divided (x ∷ []) = refl
  bits-divided (x ∷ y ∷ rest) =
      let later = bits-divided (y ∷ rest) in
      elim (cases_Bool (belongs y)) [
        | inl joins ↦ rw (joins, later) (bits-put_first x (divided belongs (y ∷ rest)))
        | inr begins ↦ rw (begins, later) refl
      ]
    where
      bits-put_first : (x : A) (parts : List (List A))
          → put_first (belongs x) (map (map belongs) parts) ≡ map (map belongs) (put_first x parts)
      bits-put_first x [] = refl
      bits-put_first x (part ∷ parts) = refl

  -- so how long the parts are depends on the results alone
  pub sizes-bits : (xs : List A) → map length (divided belongs xs) ≡ map length (divided (λ b. b) (map belongs xs))
  sizes-bits xs = same (divided belongs xs) ∙ sym (ap (map length) (bits-divided xs))
    where
      same : (parts : List (List A)) → map length parts ≡ map length (map (map belongs) parts)
      same [] = refl
      same (part ∷ parts) = ap₂ ◌∷◌ (sym (length-map part belongs)) (same parts)
