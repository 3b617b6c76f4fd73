-- what kerning of two glyphs preserves, and what one glyph more does
use Rattle.std.proofs.Common.{◌≡◌, ◌∙◌, ap, ℕ, suc, ℤ, ◌+◌, Bool, true, false, if◌then◌else◌, length, refl, arith}
use Rattle.std.specs.Prelude.{pos}
use Rattle.std.specs.Ordering.{int_eq}
use Rattle.shape_common.specs.Direction.{is_horizontal}
use Rattle.shape_items.specs.Buffer.{Buffer, limit_of}
use Rattle.shape_items.specs.BufferClusters.{unsafe_to_break}
use Rattle.shape_items.proofs.Merging.KeyLemmas.{length-unsafe_to_break, without_items-unsafe_to_break}
use Rattle.kern_table.specs.Walk.{left_after}
use Rattle.apple_positioning.specs.Pairs.{kerned_at, kerned_to, pair_moved, pair_put, scaled}
use Rattle.apple_positioning.specs.Runs.{Source, header}

-- ---- the number of items, and the limit

pub length_pair_put : (across : Bool) (i j : ℕ) (by : ℤ) (b : Buffer) → length (pair_put across i j by b).items ≡ length b.items
length_pair_put true i j by b = refl
length_pair_put false i j by b = refl

limit_pair_put : (across : Bool) (i j : ℕ) (by : ℤ) (b : Buffer) → limit_of (pair_put across i j by b) ≡ limit_of b
limit_pair_put true i j by b = refl
limit_pair_put false i j by b = refl

limit_break : (start end : ℕ) (b : Buffer) → limit_of (unsafe_to_break start end b) ≡ limit_of b
limit_break start end b = ap limit_of (without_items-unsafe_to_break start end b)

pub length_pair_moved : (s : Source) (i j : ℕ) (value : ℤ) (b : Buffer) → length (pair_moved s i j value b).items ≡ length b.items
length_pair_moved s i j value b =
    let across = (header s).is_cross_stream in
    let by = scaled s (is_horizontal b.direction) value in
    elim (int_eq value (pos 0)) as (λ t. length (if t then b else unsafe_to_break i (j + 1) (pair_put across i j by b)).items ≡ length b.items) [
      | true ↦ refl
      | false ↦ length-unsafe_to_break i (j + 1) (pair_put across i j by b) ∙ length_pair_put across i j by b
    ]

pub limit_pair_moved : (s : Source) (i j : ℕ) (value : ℤ) (b : Buffer) → limit_of (pair_moved s i j value b) ≡ limit_of b
limit_pair_moved s i j value b =
    let across = (header s).is_cross_stream in
    let by = scaled s (is_horizontal b.direction) value in
    elim (int_eq value (pos 0)) as (λ t. limit_of (if t then b else unsafe_to_break i (j + 1) (pair_put across i j by b)) ≡ limit_of b) [
      | true ↦ refl
      | false ↦ limit_break i (j + 1) (pair_put across i j by b) ∙ limit_pair_put across i j by b
    ]

-- ---- one glyph more

pub kerned_to_next_buffer : (s : Source) (j : ℕ) (b : Buffer) → (kerned_to s (j + 1) b).buffer
    ≡ kerned_at s j (kerned_to s j b).left (kerned_to s j b).buffer
kerned_to_next_buffer s j b =
    let e : j + 1 ≡ suc j = omega arith in
    rw e refl

pub kerned_to_next_left : (s : Source) (j : ℕ) (b : Buffer) → (kerned_to s (j + 1) b).left
    ≡ left_after s.mask j (kerned_to s j b).left (kerned_to s j b).buffer.items
kerned_to_next_left s j b =
    let e : j + 1 ≡ suc j = omega arith in
    rw e refl
