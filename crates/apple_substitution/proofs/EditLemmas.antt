-- Items written one after the other, and spans that grow.
use Rattle.std.proofs.Common.{◌≡◌, ℕ, ◌+◌, ◌-◌, ◌≤◌, ◌<◌, true, false, List, [], ◌∷◌, ◌++◌}
use Rattle.std.proofs.Common.{drop, length, nat_lt, slice_index_or, slice_range, slice_set, refl, sym, ap, ◌∙◌, arith, if◌then◌else◌}
use Rattle.std.proofs.lemmas.List.{drop_more, drop_all, get_or_default, append-nil, append_assoc, length-set}
use Rattle.shape_items.specs.Buffer.{Buffer}
use Rattle.shape_items.specs.Items.{Item, new_item}
use Rattle.shape_items.proofs.MergingInOrder.StandingLemmas.{slice_range-more}
use Rattle.apple_substitution.specs.Edits.{put_at, written}

pub written_more : (at i : ℕ) (xs : List Item) (x : Item) (b : Buffer) → i < length xs → x ≡ slice_index_or xs i x
    → written (at + i) (drop i xs) b ≡ written (at + (i + 1)) (drop (i + 1) xs) (put_at (at + i) x b)
written_more at i xs x b lt is =
    let next : at + i + 1 ≡ at + (i + 1) = omega arith in
    ap (λ ys. written (at + i) ys b) (drop_more xs i x lt)
    ∙ ap (λ y. written (at + i + 1) (drop (i + 1) xs) (put_at (at + i) y b)) (sym is)
    ∙ ap (λ k. written k (drop (i + 1) xs) (put_at (at + i) x b)) next

pub written_all : (at : ℕ) (xs : List Item) (b : Buffer) → written at (drop (length xs) xs) b ≡ b
written_all at xs b = ap (λ ys. written at ys b) (drop_all (length xs) xs (omega arith))

pub length_put : (i : ℕ) (x : Item) (b : Buffer) → length (put_at i x b).items ≡ length b.items
length_put i x b = elim (nat_lt i (length b.items)) as
    (λ t. length (if t then record b { items = slice_set b.items i x } else b).items ≡ length b.items) [
      | true ↦ length-set b.items i x
      | false ↦ refl
    ]

-- a span of one more is copied
pub span_more : (base l new items : List Item) (a i : ℕ) (x : Item) → a ≤ i → i < length items → l ≡ base ++ slice_range items a i
    → x ≡ slice_index_or items i (new_item 0 0) → new ≡ l ++ x ∷ [] → new ≡ base ++ slice_range items a (i + 1)
span_more base l new items a i x le lt before is after =
    let more : slice_range items a (i + 1) ≡ slice_range items a i ++ x ∷ [] =
    slice_range-more items a i x le lt (is ∙ get_or_default items i (new_item 0 0) x lt) in
    after ∙ ap (λ ys. ys ++ x ∷ []) before ∙ append_assoc base (slice_range items a i) (x ∷ []) ∙ ap (λ ys. base ++ ys) (sym more)

pub range_none : (xs ys : List Item) (a : ℕ) → ys ≡ ys ++ slice_range xs a a
range_none xs ys a =
    let none : a - a ≡ 0 = omega arith in
    rw none (sym (append-nil ys))
