-- Putting a range in another order, step by step: what it keeps.
use Rattle.std.proofs.Common.{◌≡◌, ℕ, ◌+◌, ◌-◌, ◌<◌, ◌≤◌, List, [], ◌∷◌, map, take, drop, length, get_or, set, slice_range, Option, Some, refl, sym, ap, ap₂, ◌∙◌, arith}
use Rattle.std.proofs.Math.Seq.{take-set-lt, map-set_same}
use Rattle.std.proofs.lemmas.List.{length-set, take-map, drop-map, take-set-le, drop-set-lt, drop-set-add, get_or-take, get_or-drop, length-take-le, length-drop}
use Rattle.std.proofs.lemmas.List.Edits.{swap_is, length-swap, split_between}
use Rattle.std.proofs.lemmas.List.Sorted.{IsPermutation-refl, IsPermutation-trans, IsPermutation-swap, IsPermutation-map, IsPermutation-append_left, IsPermutation-append_right}
use Rattle.std.specs.List.{swap}
use Rattle.std.specs.List.Sorted.{IsPermutation}
use Rattle.shape_items.specs.Buffer.{Buffer}
use Rattle.shape_items.specs.BufferClusters.{merge_clusters}
use Rattle.shape_items.specs.Items.{Item}
use Rattle.shape_items.proofs.Merging.KeyLemmas.{IsKey, keys-merge_clusters, without_items, without_items-merge_clusters, length-merge_clusters}
use Rattle.shape_plan.specs.Reorder.{exchanged, with_ccc, ccc_set, Reorders, done, exchange, merge, set_ccc, ReordersRanges}
use Rattle.shape_normalize.proofs.RoundTwo.SpanLemmas.{map-slice_range}

-- what `reorder_marks` must provide, if it is given
abbrev pub LawfulReorder : Option (Buffer → ℕ → ℕ → Buffer) → Type 0
LawfulReorder reorder = (f : Buffer → ℕ → ℕ → Buffer) → reorder ≡ Some f → ReordersRanges f

-- ---- a list of which a range is permuted

pub record PermutesRange {X : Type 0} (start end : ℕ) (xs ys : List X) : Type 0 where
  pub before : take start ys ≡ take start xs
  pub range : IsPermutation (slice_range xs start end) (slice_range ys start end)
  pub behind : drop end ys ≡ drop end xs

module _ {X : Type 0} (start end : ℕ) where
  pub PermutesRange-refl : (xs : List X) → PermutesRange start end xs xs
  PermutesRange-refl xs = record { before = refl; range = IsPermutation-refl (slice_range xs start end); behind = refl }

  pub PermutesRange-trans : (xs ys zs : List X) → PermutesRange start end xs ys → PermutesRange start end ys zs
      → PermutesRange start end xs zs
  PermutesRange-trans xs ys zs first second = record {
    before = second.before ∙ first.before;
    range = IsPermutation-trans (slice_range xs start end) (slice_range ys start end) (slice_range zs start end) first.range second.range;
    behind = second.behind ∙ first.behind;
  }

  pub PermutesRange-map : {Y : Type 0} (f : X → Y) (xs ys : List X) → PermutesRange start end xs ys
      → PermutesRange start end (map f xs) (map f ys)
  PermutesRange-map f xs ys h =
      let moved = IsPermutation-map f (slice_range xs start end) (slice_range ys start end) h.range in
      record {
        before = take-map f start ys ∙ ap (map f) h.before ∙ sym (take-map f start xs);
        range = rw (← map-slice_range f xs start end, ← map-slice_range f ys start end) moved;
        behind = drop-map f end ys ∙ ap (map f) h.behind ∙ sym (drop-map f end xs);
      }

  -- then so is the whole list
  pub IsPermutation-range : (xs ys : List X) → start ≤ end → PermutesRange start end xs ys → IsPermutation xs ys
  IsPermutation-range xs ys ordered h =
      rw (split_between xs start end ordered, split_between ys start end ordered, h.before, h.behind)
      (IsPermutation-append_right (take start xs) _ _
      (IsPermutation-append_left (drop end xs) (slice_range xs start end) (slice_range ys start end) h.range))

-- ---- an exchange within a range

module _ {X : Type 0} where
  before_swap : (xs : List X) (start i j : ℕ) → start ≤ i → start ≤ j → take start (swap xs i j) ≡ take start xs
  before_swap [] start i j low_i low_j = refl
  before_swap (d ∷ xs) start i j low_i low_j = take-set-le start _ j _ low_j ∙ take-set-le start (d ∷ xs) i _ low_i

  after_swap : (xs : List X) (end i j : ℕ) → i < end → j < end → drop end (swap xs i j) ≡ drop end xs
  after_swap [] end i j high_i high_j = refl
  after_swap (d ∷ xs) end i j high_i high_j = drop-set-lt end _ j _ high_j ∙ drop-set-lt end (d ∷ xs) i _ high_i

  -- a write to a range is a write to the list
  pub range_set : (xs : List X) (start n k : ℕ) (x : X) → k < n
      → take n (drop start (set xs (start + k) x)) ≡ set (take n (drop start xs)) k x
  range_set xs start n k x within = ap (take n) (drop-set-add start xs k x) ∙ take-set-lt n (drop start xs) k x within

  pub range_get : (xs : List X) (start n k : ℕ) (d : X) → k < n → get_or (take n (drop start xs)) k d ≡ get_or xs (start + k) d
  range_get xs start n k d within = get_or-take n (drop start xs) k d within ∙ get_or-drop start xs k d

  -- an exchange within a range is one of the range
  range_swap : (xs : List X) (start n k l : ℕ) (d : X) → k < n → l < n → start + n ≤ length xs
      → take n (drop start (swap xs (start + k) (start + l))) ≡ swap (take n (drop start xs)) k l
  range_swap xs start n k l d low high within =
      let i = start + k in
      let j = start + l in
      let part = take n (drop start xs) in
      let x = get_or xs i d in
      let y = get_or xs j d in
      let long : length part ≡ n = length-take-le n (drop start xs) (rw (length-drop start xs) (omega arith)) in
      ap (λ zs. take n (drop start zs)) (sym (swap_is xs i j d (omega arith) (omega arith)))
      ∙ range_set (set xs i y) start n l x high
      ∙ ap (λ zs. set zs l x) (range_set xs start n k y low)
      ∙ ap₂ (λ u v. set (set part k u) l v) (sym (range_get xs start n l d high)) (sym (range_get xs start n k d low))
      ∙ swap_is part k l d (rw long low) (rw long high)

  pub swap_permutes : (xs : List X) (start end i j : ℕ) → start ≤ i → i < end → start ≤ j → j < end → end ≤ length xs
      → PermutesRange start end xs (swap xs i j)
  swap_permutes [] start end i j low_i high_i low_j high_j within = absurd (omega arith)
  swap_permutes (d ∷ rest) start end i j low_i high_i low_j high_j within =
      let xs : List X = d ∷ rest in
      let first : start + (i - start) ≡ i = omega arith in
      let second : start + (j - start) ≡ j = omega arith in
      let n : length (slice_range xs start end)
      ≡ end - start = length-take-le (end - start) (drop start xs) (rw (length-drop start xs) (omega arith)) in
      let moved : slice_range (swap xs (start + (i - start)) (start + (j - start))) start end
      ≡ swap (slice_range xs start end) (i - start) (j - start) =
      range_swap xs start (end - start) (i - start) (j - start) d (omega arith) (omega arith) (omega arith) in
      let at : slice_range (swap xs i j) start end ≡ swap (slice_range xs start end) (i - start) (j - start) =
      ap₂ (λ u v. slice_range (swap xs u v) start end) (sym first) (sym second) ∙ moved in
      record {
        before = before_swap xs start i j low_i low_j;
        range = IsPermutation-swap (slice_range xs start end) (slice_range (swap xs i j) start end) (i - start) (j - start) (omega arith)
            (omega arith) at;
        behind = after_swap xs end i j high_i high_j;
      }

-- ---- what each step keeps holds in the end

module _ (start end : ℕ) (P : Buffer → Type 0)
    (by_exchange : (b : Buffer) (i j : ℕ) → start ≤ i → i < end → start ≤ j → j < end → end ≤ length b.items → P b → P (exchanged i j b))
    (by_merge : (b : Buffer) (from to : ℕ) → start ≤ from → from ≤ to → to ≤ end → end ≤ length b.items → P b
    → P (merge_clusters from to b))
    (by_set_ccc : (b : Buffer) (i : ℕ) (item : Item) (ccc : ℕ) → start ≤ i → i < end → end ≤ length b.items → item ≡ get_or b.items i item
    → 0 < ccc → P b → P (ccc_set i item ccc b)) where
  pub preserved_by_steps : {b c : Buffer} → Reorders start end b c → end ≤ length b.items → P b → P c
  preserved_by_steps done within h = h
  preserved_by_steps {b} (exchange i j low_i high_i low_j high_j rest) within h =
      preserved_by_steps rest (rw (length-swap b.items i j) within) (by_exchange b i j low_i high_i low_j high_j within h)
  preserved_by_steps {b} (merge from to low ordered high rest) within h =
      preserved_by_steps rest (rw (length-merge_clusters from to b) within) (by_merge b from to low ordered high within h)
  preserved_by_steps {b} (set_ccc i item ccc low high is mark byte rest) within h =
      preserved_by_steps rest (rw (length-set b.items i (with_ccc ccc item)) within) (by_set_ccc b i item ccc low high within is mark h)

-- what depends on no ccc, if a hook is given that may set ccc
abbrev pub GoesByNoCcc : {B : Type 0} → Option (Buffer → ℕ → ℕ → Buffer) → (Item → B) → Type 0
GoesByNoCcc reorder key = (f : Buffer → ℕ → ℕ → Buffer) → reorder ≡ Some f → (item : Item) (ccc : ℕ) → key (with_ccc ccc item) ≡ key item

-- if one item gets another ccc, what depends on no ccc stays
pub keys-ccc_set : {B : Type 0} (key : Item → B) → ((item : Item) (ccc : ℕ) → key (with_ccc ccc item) ≡ key item)
    → (i : ℕ) (item : Item) (ccc : ℕ) (b : Buffer) → item ≡ get_or b.items i item → map key (ccc_set i item ccc b).items ≡ map key b.items
keys-ccc_set key free i item ccc b is = map-set_same key b.items i (with_ccc ccc item) item (free item ccc ∙ ap key is)

module _ (start end : ℕ) (b : Buffer) (within : end ≤ length b.items) where
  pub length-Reorders : {c : Buffer} → Reorders start end b c → length c.items ≡ length b.items
  length-Reorders steps =
      preserved_by_steps start end (λ x. length x.items ≡ length b.items)
      (λ x i j low_i high_i low_j high_j inside so_far. length-swap x.items i j ∙ so_far)
      (λ x from to low ordered high inside so_far. length-merge_clusters from to x ∙ so_far)
      (λ x i item ccc low high inside is mark so_far. length-set x.items i (with_ccc ccc item) ∙ so_far) steps within refl

  -- all stays except the items and the scratch flags
  pub without_items-Reorders : {c : Buffer} → Reorders start end b c → without_items c ≡ without_items b
  without_items-Reorders steps =
      preserved_by_steps start end (λ x. without_items x ≡ without_items b)
      (λ x i j low_i high_i low_j high_j inside so_far. so_far)
      (λ x from to low ordered high inside so_far. without_items-merge_clusters from to x ∙ so_far)
      (λ x i item ccc low high inside is mark so_far. so_far) steps within refl

  -- what depends on neither clusters nor the defined flags stays after the range
  pub Reorders-after : {B : Type 0} (key : Item → B) → IsKey key → {c : Buffer} → Reorders start end b c
      → drop end (map key c.items) ≡ drop end (map key b.items)
  Reorders-after key is_key steps =
      preserved_by_steps start end (λ x. drop end (map key x.items) ≡ drop end (map key b.items))
      (λ x i j low_i high_i low_j high_j inside so_far.
      drop-map key end (swap x.items i j) ∙ ap (map key) (after_swap x.items end i j high_i high_j) ∙ sym (drop-map key end x.items)
      ∙ so_far)
      (λ x from to low ordered high inside so_far. ap (drop end) (keys-merge_clusters key is_key from to x) ∙ so_far)
      (λ x i item ccc low high inside is mark so_far.
      drop-map key end (set x.items i (with_ccc ccc item)) ∙ ap (map key) (drop-set-lt end x.items i (with_ccc ccc item) high)
      ∙ sym (drop-map key end x.items) ∙ so_far) steps within refl

  -- and before it
  pub Reorders-before : {B : Type 0} (key : Item → B) → IsKey key → {c : Buffer} → Reorders start end b c
      → take start (map key c.items) ≡ take start (map key b.items)
  Reorders-before key is_key steps =
      preserved_by_steps start end (λ x. take start (map key x.items) ≡ take start (map key b.items))
      (λ x i j low_i high_i low_j high_j inside so_far.
      take-map key start (swap x.items i j) ∙ ap (map key) (before_swap x.items start i j low_i low_j) ∙ sym (take-map key start x.items)
      ∙ so_far)
      (λ x from to low ordered high inside so_far. ap (take start) (keys-merge_clusters key is_key from to x) ∙ so_far)
      (λ x i item ccc low high inside is mark so_far.
      take-map key start (set x.items i (with_ccc ccc item)) ∙ ap (map key) (take-set-le start x.items i (with_ccc ccc item) low)
      ∙ sym (take-map key start x.items) ∙ so_far) steps within refl

  -- what depends on no ccc either is permuted in the range
  pub Reorders-permutes : {B : Type 0} (key : Item → B) → IsKey key → ((item : Item) (ccc : ℕ) → key (with_ccc ccc item) ≡ key item)
      → {c : Buffer} → Reorders start end b c → PermutesRange start end (map key b.items) (map key c.items)
  Reorders-permutes key is_key free steps =
      preserved_by_steps start end (λ x. PermutesRange start end (map key b.items) (map key x.items))
      (λ x i j low_i high_i low_j high_j inside so_far.
      PermutesRange-trans start end (map key b.items) (map key x.items) (map key (swap x.items i j)) so_far
      (PermutesRange-map start end key x.items (swap x.items i j) (swap_permutes x.items start end i j low_i high_i low_j high_j inside)))
      (λ x from to low ordered high inside so_far. rw (keys-merge_clusters key is_key from to x) so_far)
      (λ x i item ccc low high inside is mark so_far. rw (keys-ccc_set key free i item ccc x is) so_far) steps within
      (PermutesRange-refl start end (map key b.items))

  pub keys-Reorders : {B : Type 0} (key : Item → B) → IsKey key → ((item : Item) (ccc : ℕ) → key (with_ccc ccc item) ≡ key item)
      → start ≤ end → {c : Buffer} → Reorders start end b c → IsPermutation (map key b.items) (map key c.items)
  keys-Reorders key is_key free ordered {c} steps =
      IsPermutation-range start end (map key b.items) (map key c.items) ordered (Reorders-permutes key is_key free steps)
