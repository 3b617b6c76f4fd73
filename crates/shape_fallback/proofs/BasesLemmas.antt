-- Lemmas on the bases of a buffer.
use Rattle.std.proofs.Common.{◌≡◌, ℕ, zero, suc, ◌+◌, ◌-◌, ◌<◌, ◌≤◌, Bool, true, false, List, [], ◌∷◌, ◌++◌, length, get_or, take, drop, map, refl, ap, sym, ◌∙◌, arith, cond, inl, inr}
use Rattle.std.specs.Prelude.{fold}
use Rattle.std.specs.List.{list_any, prefix_len}
use Rattle.std.proofs.lemmas.List.{drop_all, length-map, drop-map, get_or_default}
use Rattle.std.proofs.lemmas.List.Sums.{fold-append}
use Rattle.std.proofs.Math.Seq.{drop-cons}
use Rattle.std.proofs.lemmas.Bool.{cases_Bool, cases_lt}
use Rattle.shape_items.specs.Items.{Item, is_mark_item, new_item}
use Rattle.shape_items.specs.Buffer.{Buffer}
use Rattle.shape_common.specs.Face.{FaceMeaning}
use Rattle.shape_items.proofs.Merging.KeyLemmas.{keys-unsafe_to_break, without_items-unsafe_to_break}
use Rattle.shape_fallback.specs.declared.ot_shape_fallback.marks.MarkFrame.{MarkFrame}
use Rattle.shape_fallback.specs.Bases.{begins_with_mark, Span, marks_of, marks_from, position_span, base_at, bases, with_marks, positioned_at}

-- placing the marks of a span leaves which items are marks
marks_of-span : (face : FaceMeaning) (s : MarkFrame) (b : Buffer) (span : Span) → marks_of (position_span face s b span) ≡ marks_of b
unfolding position_span
marks_of-span face s b span = keys-unsafe_to_break is_mark_item (λ x. refl) span.start span.end b

with_marks_preserves : (face : FaceMeaning) (s : MarkFrame) (i : ℕ) (b : Buffer) (n : ℕ)
    → marks_of (fold (position_span face s) b (with_marks i n)) ≡ marks_of b
with_marks_preserves face s i b zero = refl
with_marks_preserves face s i b (suc n) = marks_of-span face s b (record { start = i; end = i + 1 + suc n })

base_at_preserves : (face : FaceMeaning) (s : MarkFrame) (i : ℕ) (b : Buffer) (ms : List Bool)
    → marks_of (fold (position_span face s) b (base_at i ms)) ≡ marks_of b
unfolding base_at
base_at_preserves face s i b [] = refl
base_at_preserves face s i b (true ∷ ms) = refl
base_at_preserves face s i b (false ∷ ms) = with_marks_preserves face s i b (prefix_len (λ mark. mark) ms)

-- placing the marks of a base leaves which items are marks
pub marks_of-positioned_at : (face : FaceMeaning) (s : MarkFrame) (i : ℕ) (b : Buffer) → marks_of (positioned_at face s i b) ≡ marks_of b
unfolding positioned_at
marks_of-positioned_at face s i b = base_at_preserves face s i b (drop i (marks_of b))

-- placing the marks of a span leaves the limit
limit-with_marks : (face : FaceMeaning) (s : MarkFrame) (i : ℕ) (b : Buffer) (n : ℕ)
    → (fold (position_span face s) b (with_marks i n)).length_limit ≡ b.length_limit
unfolding position_span
limit-with_marks face s i b zero = refl
limit-with_marks face s i b (suc n) = ap (λ (c : Buffer). c.length_limit) (without_items-unsafe_to_break i (i + 1 + suc n) b)

limit-base_at : (face : FaceMeaning) (s : MarkFrame) (i : ℕ) (b : Buffer) (ms : List Bool)
    → (fold (position_span face s) b (base_at i ms)).length_limit ≡ b.length_limit
unfolding base_at
limit-base_at face s i b [] = refl
limit-base_at face s i b (true ∷ ms) = refl
limit-base_at face s i b (false ∷ ms) = limit-with_marks face s i b (prefix_len (λ mark. mark) ms)

-- and so does placing the marks of a base
pub limit-positioned_at : (face : FaceMeaning) (s : MarkFrame) (i : ℕ) (b : Buffer) → (positioned_at face s i b).length_limit ≡ b.length_limit
unfolding positioned_at
limit-positioned_at face s i b = limit-base_at face s i b (drop i (marks_of b))

-- one more place visited
bases_split : (i : ℕ) (ms : List Bool) → i < length ms → bases i (drop i ms) ≡ base_at i (drop i ms) ++ bases (i + 1) (drop (i + 1) ms)
unfolding bases
bases_split i ms within =
    let next : suc i ≡ i + 1 = omega arith in
    rw (drop-cons ms i true within, ← next) refl

pub bases_step : (face : FaceMeaning) (s : MarkFrame) (i : ℕ) (b : Buffer) → i < length b.items
    → fold (position_span face s) b (bases i (drop i (marks_of b)))
    ≡ fold (position_span face s) (positioned_at face s i b) (bases (i + 1) (drop (i + 1) (marks_of (positioned_at face s i b))))
unfolding positioned_at
bases_step face s i b within =
    let same = marks_of-positioned_at face s i b in
    let inside : i < length (marks_of b) = simp length-map within in
    ap (fold (position_span face s) b) (bases_split i (marks_of b) inside)
    ∙ fold-append (position_span face s) b (base_at i (drop i (marks_of b))) (bases (i + 1) (drop (i + 1) (marks_of b)))
    ∙ ap (λ (ms : List Bool). fold (position_span face s) (positioned_at face s i b) (bases (i + 1) (drop (i + 1) ms))) (sym same)

-- as many items as before
pub length-positioned_at : (face : FaceMeaning) (s : MarkFrame) (i : ℕ) (b : Buffer)
    → length (positioned_at face s i b).items ≡ length b.items
length-positioned_at face s i b =
    sym (length-map (positioned_at face s i b).items is_mark_item) ∙ ap length (marks_of-positioned_at face s i b)
    ∙ length-map b.items is_mark_item

-- every place visited
pub bases_end : (face : FaceMeaning) (s : MarkFrame) (i : ℕ) (b : Buffer) → length b.items ≤ i
    → fold (position_span face s) b (bases i (drop i (marks_of b))) ≡ b
unfolding bases
bases_end face s i b over =
    let none : drop i (marks_of b) ≡ [] = drop_all i (marks_of b) (simp length-map over) in
    rw none refl

-- which items from a place on are marks: the one there, then the others
marks_at : (i : ℕ) (b : Buffer) (x : Item) → i < length b.items → x ≡ get_or b.items i x
    → drop i (marks_of b) ≡ is_mark_item x ∷ map is_mark_item (drop (i + 1) b.items)
marks_at i b x within is =
    let next : suc i ≡ i + 1 = omega arith in
    drop-map is_mark_item i b.items
    ∙ ap (map is_mark_item) (drop-cons b.items i x within ∙ ap (λ (y : Item). y ∷ drop (suc i) b.items) (sym is))
    ∙ ap (λ (n : ℕ). is_mark_item x ∷ map is_mark_item (drop n b.items)) next

prefix_of_marks : (xs : List Item) → prefix_len (λ mark. mark) (map is_mark_item xs) ≡ prefix_len is_mark_item xs
prefix_of_marks [] = refl
prefix_of_marks (x ∷ xs) = ap (λ (n : ℕ). cond (is_mark_item x) (1 + n) 0) (prefix_of_marks xs)

-- a mark is no base
pub at_mark : (face : FaceMeaning) (s : MarkFrame) (i : ℕ) (b : Buffer) (x : Item) → i < length b.items → x ≡ get_or b.items i x
    → is_mark_item x ≡ true → positioned_at face s i b ≡ b
unfolding positioned_at base_at
at_mark face s i b x within is mark = rw (marks_at i b x within is, mark) refl

-- another item with n marks after it
at_other : (face : FaceMeaning) (s : MarkFrame) (i n : ℕ) (b : Buffer) (x : Item) → i < length b.items → x ≡ get_or b.items i x
    → is_mark_item x ≡ false → n ≡ prefix_len is_mark_item (drop (i + 1) b.items)
    → positioned_at face s i b ≡ fold (position_span face s) b (with_marks i n)
unfolding positioned_at base_at
at_other face s i n b x within is mark count =
    rw (marks_at i b x within is, mark, prefix_of_marks (drop (i + 1) b.items), ← count) refl

pub at_bare : (face : FaceMeaning) (s : MarkFrame) (i n : ℕ) (b : Buffer) (x : Item) → i < length b.items → x ≡ get_or b.items i x
    → is_mark_item x ≡ false → n ≡ prefix_len is_mark_item (drop (i + 1) b.items) → n ≡ 0 → positioned_at face s i b ≡ b
at_bare face s i n b x within is mark count none =
    at_other face s i n b x within is mark count ∙ ap (λ (k : ℕ). fold (position_span face s) b (with_marks i k)) none

with_some : (face : FaceMeaning) (s : MarkFrame) (i n : ℕ) (b : Buffer) → 0 < n
    → fold (position_span face s) b (with_marks i n) ≡ position_span face s b (record { start = i; end = i + 1 + n })
with_some face s i zero b some = absurd (omega arith)
with_some face s i (suc n) b some = refl

pub at_base : (face : FaceMeaning) (s : MarkFrame) (i n : ℕ) (b : Buffer) (x : Item) → i < length b.items → x ≡ get_or b.items i x
    → is_mark_item x ≡ false → n ≡ prefix_len is_mark_item (drop (i + 1) b.items) → 0 < n
    → positioned_at face s i b ≡ position_span face s b (record { start = i; end = i + 1 + n })
at_base face s i n b x within is mark count some = at_other face s i n b x within is mark count ∙ with_some face s i n b some

-- no mark first, no marks
pub none_by_first : (xs : List Item) → begins_with_mark xs ≡ false → prefix_len is_mark_item xs ≡ 0
none_by_first [] first = refl
none_by_first (x ∷ xs) first = rw first refl

pub some_by_first : (xs : List Item) → begins_with_mark xs ≡ true → 0 < prefix_len is_mark_item xs
some_by_first [] first = absurd (let e : false ≡ true = first in cc)
some_by_first (x ∷ xs) first = rw first (omega arith)

-- an item without a mark after it, whatever it is
unfollowed : (face : FaceMeaning) (s : MarkFrame) (i : ℕ) (b : Buffer) (x : Item) → i < length b.items → x ≡ get_or b.items i x
    → 0 ≡ prefix_len is_mark_item (drop (i + 1) b.items) → (mark : Bool) → is_mark_item x ≡ mark → positioned_at face s i b ≡ b
unfollowed face s i b x within is none true mark = at_mark face s i b x within is mark
unfollowed face s i b x within is none false mark = at_bare face s i 0 b x within is mark none refl

pub at_unfollowed : (face : FaceMeaning) (s : MarkFrame) (i : ℕ) (b : Buffer) → i < length b.items
    → begins_with_mark (drop (i + 1) b.items) ≡ false → positioned_at face s i b ≡ b
at_unfollowed face s i b within first =
    let x : Item = get_or b.items i (new_item 0 0) in
    unfollowed face s i b x within (get_or_default b.items i (new_item 0 0) x within)
    (sym (none_by_first (drop (i + 1) b.items) first)) (is_mark_item x) refl

-- the marks from a place on, counted over the items
pub marks_from_items : (i : ℕ) (b : Buffer) → marks_from i b ≡ prefix_len is_mark_item (drop i b.items)
marks_from_items i b = ap (prefix_len (λ mark. mark)) (drop-map is_mark_item i b.items) ∙ prefix_of_marks (drop i b.items)

-- if some marks stand from a place on, the first is there, and the others from the next place on
one_mark_less : (i : ℕ) (ms : List Bool) → 0 < prefix_len (λ mark. mark) (drop i ms)
    → prefix_len (λ mark. mark) (drop i ms) ≡ 1 + prefix_len (λ mark. mark) (drop (i + 1) ms)
one_mark_less zero [] some = absurd (omega (arith, some))
one_mark_less zero (true ∷ ms) some = refl
one_mark_less zero (false ∷ ms) some = absurd (omega (arith, some))
one_mark_less (suc i) [] some = absurd (omega (arith, some))
one_mark_less (suc i) (m ∷ ms) some =
    let more : suc i + 1 ≡ suc (i + 1) = omega arith in
    rw more (one_mark_less i ms some)

pub marks_from_next : (i : ℕ) (b : Buffer) → 0 < marks_from i b → marks_from i b ≡ 1 + marks_from (i + 1) b
marks_from_next i b some = one_mark_less i (marks_of b) some

begins_by_count : (xs : List Item) → 0 < prefix_len is_mark_item xs → begins_with_mark xs ≡ true
begins_by_count [] some = absurd (omega (arith, some))
begins_by_count (x ∷ xs) some = elim (cases_Bool (is_mark_item x)) [
  | inl mark ↦ mark
  | inr other ↦ absurd (let none : prefix_len is_mark_item (x ∷ xs) ≡ 0 = rw other refl in omega (arith, none, some))
]

-- a place where a mark stands is no base
pub at_counted : (face : FaceMeaning) (s : MarkFrame) (i : ℕ) (b : Buffer) → i < length b.items → 0 < marks_from i b
    → positioned_at face s i b ≡ b
at_counted face s i b within some =
    let x : Item = get_or b.items i (new_item 0 0) in
    let read = get_or_default b.items i (new_item 0 0) x within in
    let first = begins_by_count (drop i b.items) (omega (arith, marks_from_items i b, some)) in
    let here : drop i b.items ≡ x ∷ drop (suc i) b.items = drop-cons b.items i x within ∙ ap (λ (y : Item). y ∷ drop (suc i) b.items) (sym read) in
    at_mark face s i b x within read (sym (ap begins_with_mark here) ∙ first)

-- every place visited except the last, which has nothing after it
pub bases_last : (face : FaceMeaning) (s : MarkFrame) (i : ℕ) (b : Buffer) → length b.items ≤ i + 1
    → fold (position_span face s) b (bases i (drop i (marks_of b))) ≡ b
bases_last face s i b over = elim (cases_lt i (length b.items)) [
  | inl within ↦
      let none : drop (i + 1) b.items ≡ [] = drop_all (i + 1) b.items over in
      let last = at_unfollowed face s i b within (rw none refl) in
      bases_step face s i b within
      ∙ ap (λ (c : Buffer). fold (position_span face s) c (bases (i + 1) (drop (i + 1) (marks_of c)))) last
      ∙ bases_end face s (i + 1) b over
  | inr past ↦ bases_end face s i b past
]

-- no mark stands among the first n items
no_mark_at : (xs : List Item) (i n : ℕ) → i < n → list_any is_mark_item (take n xs) ≡ false → begins_with_mark (drop i xs) ≡ false
no_mark_at [] zero n lt none = refl
no_mark_at [] (suc i) n lt none = refl
no_mark_at (x ∷ xs) i zero lt none = absurd (omega (arith, lt))
no_mark_at (x ∷ xs) zero (suc n) lt none = elim (cases_Bool (is_mark_item x)) [
  | inl mark ↦ absurd (let some : list_any is_mark_item (take (suc n) (x ∷ xs)) ≡ true = rw mark refl in let e : false ≡ true = sym none ∙ some in cc)
  | inr other ↦ other
]
no_mark_at (x ∷ xs) (suc i) (suc n) lt none =
    let fewer : list_any is_mark_item (take n xs) ≡ false = elim (cases_Bool (is_mark_item x)) [
      | inl mark ↦ absurd (let some : list_any is_mark_item (take (suc n) (x ∷ xs)) ≡ true = rw mark refl in let e : false ≡ true = sym none ∙ some in cc)
      | inr other ↦ let rest : list_any is_mark_item (take (suc n) (x ∷ xs)) ≡ list_any is_mark_item (take n xs) = rw other refl in sym rest ∙ none
    ] in
    no_mark_at xs i n (omega (arith, lt)) fewer

-- places visited before the last of n items without a mark, none of which changes anything
pub bases_passed : (face : FaceMeaning) (s : MarkFrame) (b : Buffer) (i n : ℕ) → i ≤ n - 1 → n ≤ length b.items
    → list_any is_mark_item (take n b.items) ≡ false
    → fold (position_span face s) b (bases i (drop i (marks_of b))) ≡ fold (position_span face s) b (bases 0 (drop 0 (marks_of b)))
bases_passed face s b zero n le within none = refl
bases_passed face s b (suc i) n le within none =
    let next : suc i ≡ i + 1 = omega arith in
    let here : i < length b.items = omega (arith, le, within) in
    let bare = at_unfollowed face s i b here (no_mark_at b.items (i + 1) n (omega (arith, le)) none) in
    ap (λ (k : ℕ). fold (position_span face s) b (bases k (drop k (marks_of b)))) next
    ∙ ap (λ (c : Buffer). fold (position_span face s) c (bases (i + 1) (drop (i + 1) (marks_of c)))) (sym bare)
    ∙ sym (bases_step face s i b here)
    ∙ bases_passed face s b i n (omega (arith, le)) within none
