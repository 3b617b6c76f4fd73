-- Reordering leaves the number of items, whatever the masks are.
use Rattle.std.proofs.Common.{◌≡◌, ℕ, zero, suc, ◌+◌, ◌-◌, ◌<◌, ◌≤◌, ◌&&◌, nat_le, nat_lt, true, false, if◌then◌else◌, List, length, drop, refl, ◌∙◌, arith, inl, inr}
use Rattle.std.proofs.lemmas.Bool.Decides.{nat_tests}
use Rattle.std.proofs.lemmas.Bool.{cases_Bool, and_parts}
use Rattle.std.proofs.lemmas.List.{length-set, length-drop}
use Rattle.std.proofs.lemmas.List.Sums.{prefix_len-le-length}
use Rattle.shape_items.specs.Buffer.{Buffer}
use Rattle.shape_items.specs.BufferClusters.{merge_clusters}
use Rattle.shape_items.specs.Items.{Item}
use Rattle.shape_items.proofs.Merging.KeyLemmas.{length-merge_clusters}
use Rattle.syllabic.specs.Moving.{brought_before, reversed, run_brought_before}
use Rattle.syllabic.specs.Walking.{item_at, is_in, count_in, begins_at, end_of, at_syllable, to_syllable, syllable_of, kind_of_byte}
use Rattle.syllabic.proofs.MovingLemmas.{length-stepped_before, length-reversed}
use Rattle.syllables.specs.IndicCategories.{H, VPre}
use Rattle.khmer_shaper.specs.Reordering.{masks_added, has_category, turned_at, turned, ros_moved, is_coeng, is_ro, pair_follows, from_of, pair_moved, moved_at, moved_to, each_moved, reordered, reordered_some, each_reordered}
use Rattle.khmer_shaper.specs.declared.reordering.KhmerMasks.{KhmerMasks}
use Rattle.khmer_shaper.specs.declared.reordering.Seen.{Seen}
use Rattle.khmer_shaper.proofs.ReorderingLemmas.{from-bounds}

-- as many items as before
abbrev Long : (b c : Buffer) → Type 0
Long b c = length c.items ≡ length b.items

long-masks_added : (mask start count : ℕ) (b : Buffer) → Long b (masks_added mask start count b)
long-masks_added mask start zero b = refl
long-masks_added mask start (suc k) b = length-set (masks_added mask start k b).items (start + k) _ ∙ long-masks_added mask start k b

long-brought : (place from : ℕ) (b : Buffer) → Long b (brought_before place from b)
long-brought place from b =
    length-stepped_before place (from - place) (merge_clusters place (from + 1) b) ∙ length-merge_clusters place (from + 1) b

long-run : (place from to : ℕ) (b : Buffer) → place ≤ from → from ≤ to → to ≤ length b.items → Long b (run_brought_before place from to b)
long-run place from to b ordered some within =
    let merged = merge_clusters place to b in
    let one : Long b merged = length-merge_clusters place to b in
    let two : Long merged (reversed place to merged) = length-reversed place to merged (omega (arith, ordered, some)) (omega (arith, within, one)) in
    let three : Long (reversed place to merged) (run_brought_before place from to b)
    = length-reversed (place + (to - from)) to (reversed place to merged) (omega (arith, ordered, some)) (omega (arith, within, one, two)) in
    three ∙ two ∙ one

long-turned_at : (i : ℕ) (b : Buffer) → i + 2 ≤ length b.items → Long b (turned_at i b)
long-turned_at i b within =
    elim (has_category H (item_at b.items (i + 1))) as (λ t. Long b (if t then reversed i (i + 2) b else b)) [
      | true ↦ length-reversed i (i + 2) b (omega arith) within
      | false ↦ refl
    ]

long-turned : (start n : ℕ) (b : Buffer) → start + n < length b.items → Long b (turned start n b)
long-turned start zero b within = refl
long-turned start (suc k) b within =
    let c = turned start k b in
    let first : Long b c = long-turned start k b (omega (arith, within)) in
    long-turned_at (start + k) c (omega (arith, within, first)) ∙ first

module _ (masks : KhmerMasks) where
  long-ros_moved : (start end from i : ℕ) (b : Buffer) → start ≤ from → from ≤ i → i + 1 < length b.items
      → Long b (ros_moved masks start end from i b)
  long-ros_moved start end from i b ordered some within =
      let one = masks_added masks.prebase from (i + 2 - from) b in
      let first : Long b one = long-masks_added masks.prebase from (i + 2 - from) b in
      let two = masks_added masks.after_ro (from + 2) (end - (from + 2)) one in
      let second : Long one two = long-masks_added masks.after_ro (from + 2) (end - (from + 2)) one in
      let three = run_brought_before start from (i + 2) two in
      let third : Long two three = long-run start from (i + 2) two ordered (omega (arith, some)) (omega (arith, within, first, second)) in
      long-turned start (i + 1 - from) three (omega (arith, ordered, some, within, first, second, third)) ∙ third ∙ second ∙ first

  long-pair_moved : (start end : ℕ) (seen : Seen) (i : ℕ) (b : Buffer) → start ≤ i → i + 1 < length b.items
      → Long b (pair_moved masks start end seen i b)
  long-pair_moved start end seen i b ordered within =
      let bounds = from-bounds seen start i ordered in
      elim (pair_follows end i b.items) as (λ t. Long b (if t then b else ros_moved masks start end (from_of seen start i) i b)) [
        | true ↦ refl
        | false ↦ long-ros_moved start end (from_of seen start i) i b bounds.0 bounds.1 within
      ]

  long-moved_at : (start end : ℕ) (seen : Seen) (i : ℕ) (b : Buffer) → start ≤ i → end ≤ length b.items
      → Long b (moved_at masks start end seen i b)
  long-moved_at start end seen i b ordered within = elim (cases_Bool (is_coeng end seen.coengs i b.items)) [
    | inl coeng ↦
        let parts = and_parts (has_category H (item_at b.items i) && nat_le seen.coengs 2) (nat_lt (i + 1) end) coeng in
        let more : i + 1 < end = (let e = parts.1 in grind (arith, nat_tests, e)) in
        rw coeng (elim (is_ro i b.items) as (λ t. Long b (if t then pair_moved masks start end seen i b else b)) [
          | true ↦ long-pair_moved start end seen i b ordered (omega (arith, more, within))
          | false ↦ refl
        ])
    | inr other ↦ rw other (elim (has_category VPre (item_at b.items i)) as (λ t. Long b (if t then brought_before start i b else b)) [
      | true ↦ long-brought start i b
      | false ↦ refl
    ])
  ]

  long-moved_to : (start end n : ℕ) (b : Buffer) → end ≤ length b.items → Long b (moved_to masks start end n b).0
  long-moved_to start end zero b within = refl
  long-moved_to start end (suc k) b within =
      let c = (moved_to masks start end k b).0 in
      let first : Long b c = long-moved_to start end k b within in
      long-moved_at start end (moved_to masks start end k b).1 (start + k + 1) c (omega arith) (omega (arith, within, first)) ∙ first

  long-reordered : (b : Buffer) (start end : ℕ) → end ≤ length b.items → Long b (reordered masks b start end)
  long-reordered b start end within =
      let c = masks_added masks.after_base (start + 1) (end - (start + 1)) b in
      let first : Long b c = long-masks_added masks.after_base (start + 1) (end - (start + 1)) b in
      elim (nat_le (kind_of_byte (syllable_of (item_at b.items start))) 1) as (λ t. Long b (if t then each_moved masks c start end else b)) [
        | true ↦ long-moved_to start end (end - start - 1) c (omega (arith, within, first)) ∙ first
        | false ↦ refl
      ]

  long-some : (b : Buffer) (start end : ℕ) → end ≤ length b.items → Long b (reordered_some masks b start end)
  long-some b start end within = elim (nat_lt start end) as (λ t. Long b (if t then reordered masks b start end else b)) [
    | true ↦ long-reordered b start end within
    | false ↦ refl
  ]

  end-within : (items : List Item) (i : ℕ) → i < length items → end_of items i ≤ length items
  end-within items i within =
      let count = count_in (syllable_of (item_at items i)) (drop i items) in
      let few : count ≤ length (drop i items) = prefix_len-le-length (is_in (syllable_of (item_at items i))) (drop i items) in
      let long : length (drop i items) ≡ length items - i = length-drop i items in
      omega (arith, few, long, within)

  long-at : (i : ℕ) (b : Buffer) → i < length b.items → Long b (at_syllable (reordered_some masks) i b)
  long-at i b within = elim (begins_at b.items i) as (λ t. Long b (if t then reordered_some masks b i (end_of b.items i) else b)) [
    | true ↦ long-some b i (end_of b.items i) (end-within b.items i within)
    | false ↦ refl
  ]

  long-to : (n : ℕ) (b : Buffer) → n ≤ length b.items → Long b (to_syllable (reordered_some masks) n b)
  long-to zero b within = refl
  long-to (suc i) b within =
      let c = to_syllable (reordered_some masks) i b in
      let first : Long b c = long-to i b (omega (arith, within)) in
      long-at i c (omega (arith, within, first)) ∙ first

pub length-each_reordered : (masks : KhmerMasks) (b : Buffer) → length (each_reordered masks b).items ≡ length b.items
length-each_reordered masks b = long-to masks (length b.items) b (omega arith)
