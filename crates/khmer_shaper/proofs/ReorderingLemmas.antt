-- Reordering keeps clusters, flags and the number of items.
use Rattle.std.proofs.Common.{ℕ, zero, suc, ◌+◌, ◌-◌, ◌<◌, ◌≤◌, ◌&&◌, nat_le, nat_lt, true, false, if◌then◌else◌, length, refl, ap, arith, inl, inr}
use Rattle.std.proofs.lemmas.Bool.Decides.{nat_tests}
use Rattle.std.proofs.lemmas.Bool.{cases_Bool, and_parts}
use Rattle.shape_common.specs.Face.{FaceMeaning}
use Rattle.shape_items.specs.Buffer.{Buffer}
use Rattle.shape_buffer.specs.Layout.{HasNoDefinedFlag}
use Rattle.shape_buffer.proofs.Flags.FeatureBitLemmas.{added_brings_none}
use Rattle.syllabic.specs.Circles.{with_circles}
use Rattle.syllabic.specs.Moving.{brought_before, reversed, run_brought_before}
use Rattle.syllabic.specs.Walking.{item_at, syllable_of, kind_of_byte}
use Rattle.syllabic.proofs.CircleLemmas.{Preserved-circles}
use Rattle.syllabic.proofs.PreservationLemmas.{Keeps, Keeps-same, Keeps-then, Keeps-set, Keeps-brought_before, Keeps-each_syllable, KeepsSyllables, JoinedIf, LeavesBoth, Preserved, Preserved-then, Preserved-kept}
use Rattle.syllabic.proofs.ReversingLemmas.{Keeps-reversed, Keeps-run_joined}
use Rattle.syllables.specs.IndicCategories.{H, VPre}
use Rattle.khmer_shaper.specs.Reordering.{with_mask, mask_added, masks_added, has_category, turned_at, turned, ros_moved, is_coeng, is_ro, pair_follows, from_of, pair_moved, moved_at, moved_to}
use Rattle.khmer_shaper.specs.Reordering.{each_moved, reordered, reordered_some, each_reordered, circled, all_reordered}
use Rattle.khmer_shaper.specs.declared.reordering.KhmerMasks.{KhmerMasks}
use Rattle.khmer_shaper.specs.declared.reordering.Seen.{Seen}

-- none of the masks has a flag
pub record MasksFlagless (masks : KhmerMasks) : Type 0 where
  pub after_base : HasNoDefinedFlag masks.after_base
  pub prebase : HasNoDefinedFlag masks.prebase
  pub after_ro : HasNoDefinedFlag masks.after_ro

leaves-with_mask : (mask : ℕ) → HasNoDefinedFlag mask → LeavesBoth (with_mask mask)
leaves-with_mask mask none = record {
  cluster = λ x. refl;
  flags = λ flag defined x. ap (nat_lt 0) (added_brings_none mask x.mask flag none defined);
}

Keeps-masks_added : (mask : ℕ) → HasNoDefinedFlag mask → (start count : ℕ) (b : Buffer) → Keeps b (masks_added mask start count b)
Keeps-masks_added mask none start zero b = Keeps-same b
Keeps-masks_added mask none start (suc k) b =
    let before = masks_added mask start k b in
    Keeps-then b before (mask_added mask (start + k) before) (Keeps-masks_added mask none start k b)
    (Keeps-set (with_mask mask) (leaves-with_mask mask none) (start + k) before)

Keeps-turned_at : (start to i : ℕ) (b : Buffer) → start ≤ i → i + 2 ≤ to → to ≤ length b.items → JoinedIf start to b
    → Keeps b (turned_at i b) × JoinedIf start to (turned_at i b)
Keeps-turned_at start to i b ordered inside within joined =
    elim (has_category H (item_at b.items (i + 1))) as (λ t. let c = if t then reversed i (i + 2) b else b in Keeps b c × JoinedIf start to c) [
      | true ↦ Keeps-reversed start to i (i + 2) b ordered (omega arith) inside within joined
      | false ↦ (Keeps-same b, joined)
    ]

Keeps-turned : (start to n : ℕ) (b : Buffer) → start + n + 1 ≤ to → to ≤ length b.items → JoinedIf start to b
    → Keeps b (turned start n b) × JoinedIf start to (turned start n b)
Keeps-turned start to zero b inside within joined = (Keeps-same b, joined)
Keeps-turned start to (suc k) b inside within joined =
    let c = turned start k b in
    let first = Keeps-turned start to k b (omega (arith, inside)) within joined in
    let kept = first.0 in
    let second = Keeps-turned_at start to (start + k) c (omega arith) (omega (arith, inside)) (omega (arith, within, kept.count)) first.1 in
    (Keeps-then b c (turned_at (start + k) c) kept second.0, second.1)

pub from-bounds : (seen : Seen) (start i : ℕ) → start ≤ i → (start ≤ from_of seen start i) × (from_of seen start i ≤ i)
from-bounds seen start i ordered = elim (cases_Bool (seen.waits && nat_le start seen.from && nat_le seen.from i)) [
  | inl is ↦
      let parts = and_parts (seen.waits && nat_le start seen.from) (nat_le seen.from i) is in
      let low = (and_parts seen.waits (nat_le start seen.from) parts.0).1 in
      let high = parts.1 in
      let least : start ≤ seen.from = grind (arith, nat_tests, low) in
      let most : seen.from ≤ i = grind (arith, nat_tests, high) in
      rw is (least, most)
  | inr other ↦ let same : i ≤ i = omega arith in rw other (ordered, same)
]

module _ (masks : KhmerMasks) (none : MasksFlagless masks) where
  Keeps-ros_moved : (start end from i : ℕ) (b : Buffer) → start ≤ from → from ≤ i → i + 1 < end → end ≤ length b.items
      → Keeps b (ros_moved masks start end from i b)
  Keeps-ros_moved start end from i b ordered some inside within =
      let one = masks_added masks.prebase from (i + 2 - from) b in
      let first = Keeps-masks_added masks.prebase none.prebase from (i + 2 - from) b in
      let two = masks_added masks.after_ro (from + 2) (end - (from + 2)) one in
      let second = Keeps-masks_added masks.after_ro none.after_ro (from + 2) (end - (from + 2)) one in
      let long : i + 2 ≤ length two.items = omega (arith, inside, within, first.count, second.count) in
      let three = run_brought_before start from (i + 2) two in
      let third = Keeps-run_joined start from (i + 2) two ordered (omega (arith, some)) long in
      let moved = third.0 in
      let last = Keeps-turned start (i + 2) (i + 1 - from) three (omega (arith, ordered, some)) (omega (arith, long, moved.count)) third.1 in
      let ready = Keeps-then b one two first second in
      Keeps-then b three (ros_moved masks start end from i b) (Keeps-then b two three ready moved) last.0

  Keeps-pair_moved : (start end : ℕ) (seen : Seen) (i : ℕ) (b : Buffer) → start ≤ i → i + 1 < end → end ≤ length b.items
      → Keeps b (pair_moved masks start end seen i b)
  Keeps-pair_moved start end seen i b ordered inside within =
      let bounds = from-bounds seen start i ordered in
      elim (pair_follows end i b.items) as (λ t. Keeps b (if t then b else ros_moved masks start end (from_of seen start i) i b)) [
        | true ↦ Keeps-same b
        | false ↦ Keeps-ros_moved start end (from_of seen start i) i b bounds.0 bounds.1 inside within
      ]

  Keeps-moved_at : (start end : ℕ) (seen : Seen) (i : ℕ) (b : Buffer) → start ≤ i → i < end → end ≤ length b.items
      → Keeps b (moved_at masks start end seen i b)
  Keeps-moved_at start end seen i b ordered inside within = elim (cases_Bool (is_coeng end seen.coengs i b.items)) [
    | inl coeng ↦
        let parts = and_parts (has_category H (item_at b.items i) && nat_le seen.coengs 2) (nat_lt (i + 1) end) coeng in
        let more : i + 1 < end = (let e = parts.1 in grind (arith, nat_tests, e)) in
        rw coeng (elim (is_ro i b.items) as (λ t. Keeps b (if t then pair_moved masks start end seen i b else b)) [
          | true ↦ Keeps-pair_moved start end seen i b ordered more within
          | false ↦ Keeps-same b
        ])
    | inr other ↦ rw other (elim (has_category VPre (item_at b.items i)) as (λ t. Keeps b (if t then brought_before start i b else b)) [
      | true ↦ Keeps-brought_before start i b ordered (omega (arith, inside, within))
      | false ↦ Keeps-same b
    ])
  ]

  Keeps-moved_to : (start end n : ℕ) (b : Buffer) → start + n < end → end ≤ length b.items → Keeps b (moved_to masks start end n b).0
  Keeps-moved_to start end zero b inside within = Keeps-same b
  Keeps-moved_to start end (suc k) b inside within =
      let c = (moved_to masks start end k b).0 in
      let seen = (moved_to masks start end k b).1 in
      let first = Keeps-moved_to start end k b (omega (arith, inside)) within in
      Keeps-then b c (moved_at masks start end seen (start + k + 1) c) first
      (Keeps-moved_at start end seen (start + k + 1) c (omega arith) (omega (arith, inside)) (omega (arith, within, first.count)))

  Keeps-reordered : (b : Buffer) (start end : ℕ) → start < end → end ≤ length b.items → Keeps b (reordered masks b start end)
  Keeps-reordered b start end some within =
      let c = masks_added masks.after_base (start + 1) (end - (start + 1)) b in
      let first = Keeps-masks_added masks.after_base none.after_base (start + 1) (end - (start + 1)) b in
      elim (nat_le (kind_of_byte (syllable_of (item_at b.items start))) 1) as (λ t. Keeps b (if t then each_moved masks c start end else b)) [
        | true ↦ Keeps-then b c (each_moved masks c start end) first
            (Keeps-moved_to start end (end - start - 1) c (omega (arith, some)) (omega (arith, within, first.count)))
        | false ↦ Keeps-same b
      ]

  keeps-reordered_some : KeepsSyllables (reordered_some masks)
  keeps-reordered_some b start end ordered within = elim (cases_Bool (nat_lt start end)) [
    | inl is ↦ let some : start < end = grind (arith, nat_tests, is) in rw is (Keeps-reordered b start end some within)
    | inr none ↦ rw none (Keeps-same b)
  ]

  pub Preserved-reordered : (face : FaceMeaning) (b : Buffer) → Preserved b (all_reordered face masks b)
  Preserved-reordered face b =
      let c = with_circles face circled b in
      Preserved-then b c (each_reordered masks c) (Preserved-circles face circled b)
      (Preserved-kept c (each_reordered masks c) (Keeps-each_syllable (reordered_some masks) keeps-reordered_some c))
