-- Reordering keeps clusters, flags and the number of items.
use Rattle.std.proofs.Common.{◌≡◌, ℕ, zero, suc, ◌+◌, ◌-◌, ◌<◌, ◌≤◌, ◌==◌, ◌&&◌, nat_lt, true, false, if◌then◌else◌, List, length, drop, slice_range, arith, inl, inr}
use Rattle.std.proofs.lemmas.Bool.Decides.{nat_tests}
use Rattle.std.proofs.lemmas.Bool.{cases_Bool, and_parts}
use Rattle.std.proofs.lemmas.List.{length-drop, length-take-le}
use Rattle.std.proofs.lemmas.List.Sums.{prefix_len-le-length, suffix_len-le-length}
use Rattle.shape_common.specs.Face.{FaceMeaning}
use Rattle.shape_items.specs.Buffer.{Buffer}
use Rattle.shape_items.specs.Items.{Item}
use Rattle.syllables.specs.UniversalCategories.{R}
use Rattle.syllabic.specs.Circles.{with_circles}
use Rattle.syllabic.specs.Moving.{run_brought_before, sent_after}
use Rattle.syllabic.specs.Walking.{item_at, category_of, syllable_of}
use Rattle.syllabic.proofs.CircleLemmas.{Preserved-circles}
use Rattle.syllabic.proofs.ReversingLemmas.{Keeps-run_brought_before}
use Rattle.syllabic.proofs.PreservationLemmas.{Keeps, Keeps-same, Keeps-then, Keeps-sent_after, Keeps-each_syllable, KeepsSyllables, Preserved, Preserved-then, Preserved-kept}
use Rattle.universal_shaper.specs.Reordering.{is_halant, is_before, count_base, repha_moved, goes_first, count_first, ends_run, moved_at, moved_to}
use Rattle.universal_shaper.specs.Reordering.{first_moved, is_reordered, reordered, reordered_some, each_reordered, circled, all_reordered}

-- the items that a repha goes behind are in the syllable
count_base-within : (items : List Item) (start end : ℕ) → start < end → end ≤ length items
    → start + count_base (slice_range items (start + 1) end) < end
count_base-within items start end some within =
    let run = slice_range items (start + 1) end in
    let few : count_base run ≤ length run = prefix_len-le-length is_before run in
    let long : length run ≡ end - (start + 1) = length-take-le (end - (start + 1)) (drop (start + 1) items)
    (rw (length-drop (start + 1) items) (omega (arith, some, within))) in
    omega (arith, few, long, some)

Keeps-repha_moved : (b : Buffer) (start end : ℕ) → start < end → end ≤ length b.items → Keeps b (repha_moved b start end)
Keeps-repha_moved b start end some within =
    let to = start + count_base (slice_range b.items (start + 1) end) in
    let inside = count_base-within b.items start end some within in
    elim (category_of (item_at b.items start) == R) as (λ t. Keeps b (if t then sent_after start to b else b)) [
      | true ↦ Keeps-sent_after start to b (omega arith) (omega (arith, inside, within))
      | false ↦ Keeps-same b
    ]

-- the run that ends before a place is after the front
run-within : (items : List Item) (front to : ℕ) → front ≤ to → to ≤ length items
    → front ≤ to - count_first (slice_range items front to)
run-within items front to ordered within =
    let run = slice_range items front to in
    let few : count_first run ≤ length run = suffix_len-le-length goes_first run in
    let long : length run ≡ to - front = length-take-le (to - front) (drop front items)
    (rw (length-drop front items) (omega (arith, ordered, within))) in
    omega (arith, few, long, ordered)

Keeps-moved_at : (end front i : ℕ) (b : Buffer) → i < length b.items → Keeps b (moved_at end front i b)
Keeps-moved_at end front i b within =
    let from = i + 1 - count_first (slice_range b.items front (i + 1)) in
    elim (is_halant (item_at b.items i)) as (λ t. Keeps b (if t then b
    else if nat_lt front i && ends_run end i b.items then run_brought_before front from (i + 1) b else b)) [
      | true ↦ Keeps-same b
      | false ↦ elim (cases_Bool (nat_lt front i && ends_run end i b.items)) [
        | inl moves ↦
            let both = and_parts (nat_lt front i) (ends_run end i b.items) moves in
            let before : front < i = (let e = both.0 in grind (arith, nat_tests, e)) in
            let after = run-within b.items front (i + 1) (omega (arith, before)) (omega (arith, within)) in
            rw moves (Keeps-run_brought_before front from (i + 1) b after (omega arith) (omega (arith, within)))
        | inr stays ↦ rw stays (Keeps-same b)
      ]
    ]

Keeps-moved_to : (start end n : ℕ) (b : Buffer) → start + n ≤ length b.items → Keeps b (moved_to start end n b).0
Keeps-moved_to start end zero b within = Keeps-same b
Keeps-moved_to start end (suc k) b within =
    let c = (moved_to start end k b).0 in
    let front = (moved_to start end k b).1 in
    let first = Keeps-moved_to start end k b (omega (arith, within)) in
    Keeps-then b c (moved_at end front (start + k) c) first (Keeps-moved_at end front (start + k) c (omega (arith, within, first.count)))

Keeps-reordered : (b : Buffer) (start end : ℕ) → start < end → end ≤ length b.items → Keeps b (reordered b start end)
Keeps-reordered b start end some within =
    let c = repha_moved b start end in
    let first = Keeps-repha_moved b start end some within in
    elim (is_reordered (syllable_of (item_at b.items start))) as (λ t. Keeps b (if t then first_moved c start end else b)) [
      | true ↦ Keeps-then b c (first_moved c start end) first
          (Keeps-moved_to start end (end - start) c (omega (arith, some, within, first.count)))
      | false ↦ Keeps-same b
    ]

pub keeps-reordered_some : KeepsSyllables reordered_some
keeps-reordered_some b start end ordered within = elim (cases_Bool (nat_lt start end)) [
  | inl is ↦ let some : start < end = grind (arith, nat_tests, is) in rw is (Keeps-reordered b start end some within)
  | inr none ↦ rw none (Keeps-same b)
]

pub Preserved-reordered : (face : FaceMeaning) (b : Buffer) → Preserved b (all_reordered face b)
Preserved-reordered face b =
    let c = with_circles face circled b in
    Preserved-then b c (each_reordered c) (Preserved-circles face circled b)
    (Preserved-kept c (each_reordered c) (Keeps-each_syllable reordered_some keeps-reordered_some c))
