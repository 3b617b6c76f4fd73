-- A walk that finds the end of each grapheme goes over the spans of the graphemes, which stand in order.
use Rattle.std.proofs.Common.{◌≡◌, ℕ, suc, ◌+◌, ◌<◌, ◌≤◌, Bool, true, false, not, if◌then◌else◌, List, [], ◌∷◌, ◌++◌, length, get_or, drop, map, fold, refl, sym, ap, subst, ◌∙◌, arith, inl, inr}
use Rattle.std.proofs.lemmas.Bool.{cases_Bool}
use Rattle.std.proofs.lemmas.List.{drop_more, drop_at, drop-map}
use Rattle.canonical_form.specs.Divided.{divided, put_first}
use Rattle.canonical_form.proofs.Lists.DividedLemmas.{divided-begins}
use Rattle.shape_items.proofs.Merging.KeyLemmas.{IsKey, keys-merge}
use Rattle.shape_items.proofs.MergingInOrder.StandingLemmas.{drop-from}
use Rattle.shape_items.specs.Clusters.{merge}
use Rattle.shape_items.specs.GraphemeSpans.{is_continuation, ends, spans_from, grapheme_spans}
use Rattle.shape_items.specs.Items.{Item}
use Rattle.shape_items.specs.Spans.{AreSpansInOrder}
use Rattle.shape_items.proofs.MergingInOrder.EachSpanLemmas.{AreSpansInOrder-lower}

-- what is left to do from place `place` on, by whether the items from there on continue; the open grapheme began at
-- `start`
abbrev pub left_to_do : {B : Type 0} → (ℕ → ℕ → B → B) → ℕ → ℕ → List Bool → B → B
left_to_do f start place [] b = b
left_to_do f start place (x ∷ []) b = f start (place + 1) b
left_to_do f start place (x ∷ continuation ∷ behind) b =
    if continuation then left_to_do f start (place + 1) (continuation ∷ behind) b
    else left_to_do f (place + 1) (place + 1) (continuation ∷ behind) (f start (place + 1) b)

not_true : (t : Bool) → not t ≡ true → t ≡ false
not_true true e = sym e
not_true false e = refl

not_false : (t : Bool) → not t ≡ false → t ≡ true
not_false true e = refl
not_false false e = sym e

-- a grapheme that ends here is done
ends_here : {B : Type 0} (f : ℕ → ℕ → B → B) (start place : ℕ) (x : Bool) (behind : List Bool) (b : B) → ends behind ≡ true
    → left_to_do f start place (x ∷ behind) b ≡ left_to_do f (place + 1) (place + 1) behind (f start (place + 1) b)
ends_here f start place x [] b e = refl
ends_here f start place x (c ∷ behind) b e = let off : c ≡ false = not_true c e in rw off refl

-- one that goes on is left open
goes_on : {B : Type 0} (f : ℕ → ℕ → B → B) (start place : ℕ) (x : Bool) (behind : List Bool) (b : B) → ends behind ≡ false
    → left_to_do f start place (x ∷ behind) b ≡ left_to_do f start (place + 1) behind b
goes_on f start place x [] b e = absurd (let none : true ≡ false = e in cc)
goes_on f start place x (c ∷ behind) b e = let on : c ≡ true = not_false c e in rw on refl

-- the same, of a list of bits and a place in it
pub walk_ends : {B : Type 0} (f : ℕ → ℕ → B → B) (start place : ℕ) (bits : List Bool) (b : B) → place < length bits
    → ends (drop (place + 1) bits) ≡ true
    → left_to_do f (place + 1) (place + 1) (drop (place + 1) bits) (f start (place + 1) b) ≡ left_to_do f start place (drop place bits) b
walk_ends f start place bits b within e =
    sym (ap (λ l. left_to_do f start place l b) (drop_more bits place false within)
    ∙ ends_here f start place (get_or bits place false) (drop (place + 1) bits) b e)

pub walk_goes_on : {B : Type 0} (f : ℕ → ℕ → B → B) (start place : ℕ) (bits : List Bool) (b : B) → place < length bits
    → ends (drop (place + 1) bits) ≡ false
    → left_to_do f start (place + 1) (drop (place + 1) bits) b ≡ left_to_do f start place (drop place bits) b
walk_goes_on f start place bits b within e =
    sym (ap (λ l. left_to_do f start place l b) (drop_more bits place false within)
    ∙ goes_on f start place (get_or bits place false) (drop (place + 1) bits) b e)

-- the spans of parts of these sizes from `place` on, the first of which began at `start`
abbrev opened_spans : ℕ → ℕ → List ℕ → List (ℕ × ℕ)
opened_spans start place [] = (start, place) ∷ []
opened_spans start place (size ∷ sizes) = (start, place + size) ∷ spans_from (place + size) sizes

opened_spans-anew : (place : ℕ) (sizes : List ℕ) → 0 < length sizes → opened_spans place place sizes ≡ spans_from place sizes
opened_spans-anew place [] some = absurd (omega arith)
opened_spans-anew place (size ∷ sizes) some = refl

module _ {A : Type 0} (belongs : A → Bool) where
  opened_spans-longer : (x : A) (start place : ℕ) (parts : List (List A))
      → opened_spans start place (map length (put_first x parts)) ≡ opened_spans start (place + 1) (map length parts)
  opened_spans-longer x start place [] = refl
  opened_spans-longer x start place (part ∷ parts) =
      let e : place + suc (length part) ≡ place + 1 + length part = omega arith in
      ap (λ end. (start, end) ∷ spans_from end (map length parts)) e

  some-divided : (x : A) (xs : List A) → 0 < length (map length (divided belongs (x ∷ xs)))
  some-divided x xs = rw (divided-begins belongs x xs).2 (omega arith)

  opened-walk : {B : Type 0} (f : ℕ → ℕ → B → B) (start place : ℕ) (x : A) (xs : List A) (b : B)
      → left_to_do f start place (map belongs (x ∷ xs)) b
      ≡ fold (λ b span. f span.0 span.1 b) b (opened_spans start place (map length (divided belongs (x ∷ xs))))
  opened-walk f start place x [] b = refl
  opened-walk {B = B} f start place x (y ∷ ys) b =
      let over = λ (b : B) (span : ℕ × ℕ). f span.0 span.1 b in
      elim (cases_Bool (belongs y)) [
        | inl on ↦
            rw (on, opened_spans-longer x start place (divided belongs (y ∷ ys)))
            (opened-walk f start (place + 1) y ys b)
        | inr off ↦
            rw (off, ← opened_spans-anew (place + 1) (map length (divided belongs (y ∷ ys))) (some-divided y ys))
            (opened-walk f (place + 1) (place + 1) y ys (f start (place + 1) b))
      ]

  -- the whole walk goes over the spans of the parts
  pub walk-spans : {B : Type 0} (f : ℕ → ℕ → B → B) (xs : List A) (b : B)
      → left_to_do f 0 0 (map belongs xs) b ≡ fold (λ b span. f span.0 span.1 b) b (spans_from 0 (map length (divided belongs xs)))
  walk-spans f [] b = refl
  walk-spans {B = B} f (x ∷ xs) b =
      opened-walk f 0 0 x xs b
      ∙ ap (λ spans. fold (λ (b : B) (span : ℕ × ℕ). f span.0 span.1 b) b spans)
      (opened_spans-anew 0 (map length (divided belongs (x ∷ xs))) (some-divided x xs))

-- ---- spans in order

module _ {A : Type 0} (belongs : A → Bool) (size : ℕ) where
  opened_spans-in_order : (start place : ℕ) (x : A) (xs : List A) → start ≤ place → place + suc (length xs) ≡ size
      → AreSpansInOrder start size (opened_spans start place (map length (divided belongs (x ∷ xs))))
  opened_spans-in_order start place x [] le whole = (omega arith, omega arith, omega arith, tt)
  opened_spans-in_order start place x (y ∷ ys) le whole =
      elim (cases_Bool (belongs y)) [
        | inl on ↦
            rw (on, opened_spans-longer belongs x start place (divided belongs (y ∷ ys)))
            (opened_spans-in_order start (place + 1) y ys (omega arith) (omega arith))
        | inr off ↦
            let behind = opened_spans-in_order (place + 1) (place + 1) y ys (omega arith) (omega arith) in
            let anew = opened_spans-anew (place + 1) (map length (divided belongs (y ∷ ys))) (some-divided belongs y ys) in
            rw off (
              omega arith,
              omega arith,
              omega arith,
              AreSpansInOrder-lower start (place + 1) size _ (omega arith) (subst (AreSpansInOrder (place + 1) size) anew behind),
            )
      ]

pub grapheme_spans-in_order : (items : List Item) → AreSpansInOrder 0 (length items) (grapheme_spans items)
grapheme_spans-in_order [] = tt
grapheme_spans-in_order (x ∷ xs) =
    subst (AreSpansInOrder 0 (suc (length xs)))
    (opened_spans-anew 0 (map length (divided is_continuation (x ∷ xs))) (some-divided is_continuation x xs))
    (opened_spans-in_order is_continuation (suc (length xs)) 0 0 x xs (omega arith) (omega arith))

-- no merging or marking changes what continues
pub IsKey-continuation : IsKey is_continuation
IsKey-continuation = record { by_cluster = λ item cluster. refl; by_break = λ item. refl }

-- merging a span changes nothing of what continues after it, if the items before it stand for others
pub merged-continuations : (xs new given left : List Item) (kept start end : ℕ) → kept ≤ start → start ≤ end → length given ≡ kept
    → length left ≡ start → left ++ drop start new ≡ merge start end (given ++ drop kept xs)
    → drop end (map is_continuation new) ≡ drop end (map is_continuation xs)
merged-continuations xs new given left kept start end below above size size' made =
    let behind = λ (front items : List Item) (from : ℕ) (le : from ≤ end) (is : length front ≡ from).
    drop-from (front ++ drop from items) items from (drop_at front (drop from items) from is) end le in
    let all = given ++ drop kept xs in
    drop-map is_continuation end new
    ∙ ap (map is_continuation) (sym (behind left new start above size') ∙ ap (drop end) made)
    ∙ sym (drop-map is_continuation end (merge start end all))
    ∙ ap (drop end) (keys-merge is_continuation IsKey-continuation start end all)
    ∙ drop-map is_continuation end all
    ∙ ap (map is_continuation) (behind given xs kept (omega arith) size)
    ∙ sym (drop-map is_continuation end xs)
