-- kerning preserves the number of items, and the limit
use Prim.Native.Nat.{zero}
use Rattle.std.proofs.Common.{◌≡◌, ℕ, suc, ℤ, ◌+◌, ◌==◌, true, false, if◌then◌else◌, Option, List, length, nat_lt, nat_eq, refl, ap, ◌∙◌, arith}
use Rattle.std.specs.Int.RustNames.{bit_and}
use Rattle.std.proofs.lemmas.List.{length-reverse}
use Rattle.shape_items.specs.Buffer.{Buffer, limit_of}
use Rattle.shape_items.specs.BufferClusters.{unsafe_to_break, unsafe_to_concat, with_glyph_flags}
use Rattle.shape_items.specs.Clusters.{clusters, map_range, mark_concat}
use Rattle.shape_common.specs.Direction.{is_horizontal, is_backward}
use Rattle.shape_common.specs.FlagNames.{PRODUCE_UNSAFE_TO_CONCAT}
use Rattle.shape_items.proofs.Merging.KeyLemmas.{keys-map_range, length-map_range, length-unsafe_to_break, without_items-unsafe_to_break}
use Rattle.font_sizes.specs.declared.scales.Scale.{Scale}
use Rattle.kern_table.specs.Headers.{first_start, length_of, ends_table}
use Rattle.kern_table.specs.Walk.{pair_moved, kerned}
use Rattle.kern_table.specs.StepLaws.{step-pair_moved, step-kerned}
use Rattle.kern_table.specs.Tables.{subtable_count_of, is_read, reversed, subtable_kerned, subtable_work, charged, kerned_from, table_kerned}

-- ---- unsafe to concat

pub clusters-concat : (end : ℕ) (b : Buffer) → clusters (unsafe_to_concat 0 end b).items ≡ clusters b.items
clusters-concat end b =
    elim (bit_and b.flags.0 PRODUCE_UNSAFE_TO_CONCAT == PRODUCE_UNSAFE_TO_CONCAT) as (λ t.
    clusters (if t then record (with_glyph_flags b) { items = map_range mark_concat 0 end b.items } else b).items ≡ clusters b.items) [
      | true ↦ keys-map_range (λ item. item.cluster) mark_concat (λ item. refl) 0 end b.items (omega arith)
      | false ↦ refl
    ]

-- ---- the number of items

pub length_concat : (end : ℕ) (b : Buffer) → length (unsafe_to_concat 0 end b).items ≡ length b.items
length_concat end b =
    elim (bit_and b.flags.0 PRODUCE_UNSAFE_TO_CONCAT == PRODUCE_UNSAFE_TO_CONCAT) as (λ t.
    length (if t then record (with_glyph_flags b) { items = map_range mark_concat 0 end b.items } else b).items ≡ length b.items) [
      | true ↦ length-map_range mark_concat 0 end b.items (omega arith)
      | false ↦ refl
    ]

pub length_pair_moved : (scale : Option Scale) (i j : ℕ) (by : ℤ) (b : Buffer) → length (pair_moved scale i j by b).items ≡ length b.items
length_pair_moved =
    step-pair_moved (λ b c. length c.items ≡ length b.items) (λ b. refl)
    (λ a b c first later. later ∙ first) length-unsafe_to_break
    length_concat (λ i p b. refl)

pub length_kerned : (scale : Option Scale) (t : List ℕ) (start mask : ℕ) (b : Buffer) → length (kerned scale t start mask b).items ≡ length b.items
length_kerned = step-kerned (λ b c. length c.items ≡ length b.items) (λ b. refl) (λ a b c first later. later ∙ first) length-unsafe_to_break
    length_concat (λ i p b. refl)

pub length-subtable_kerned : (scale : Option Scale) (t : List ℕ) (start mask : ℕ) (b : Buffer)
    → length (subtable_kerned scale t start mask b).items ≡ length b.items
length-subtable_kerned scale t start mask b =
    elim (is_read t start (is_horizontal b.direction)) as (λ r.
    length (if r then (if is_backward b.direction then reversed (kerned scale t start mask (reversed b)) else kerned scale t start mask b) else b).items
    ≡ length b.items) [
      | true ↦ elim (is_backward b.direction) as (λ r.
          length (if r then reversed (kerned scale t start mask (reversed b)) else kerned scale t start mask b).items ≡ length b.items) [
            | true ↦ length-reverse (kerned scale t start mask (reversed b)).items ∙ length_kerned scale t start mask (reversed b)
                ∙ length-reverse b.items
            | false ↦ length_kerned scale t start mask b
          ]
      | false ↦ refl
    ]

length-from : (scale : Option Scale) (t : List ℕ) (mask n start : ℕ) (b : Buffer) → length (kerned_from scale t mask n start b).items ≡ length b.items
length-from scale t mask zero start b = refl
length-from scale t mask (suc n) start b =
    let next = subtable_kerned scale t start mask (charged b) in
    let behind = kerned_from scale t mask n (start + length_of t start) next in
    let spent = nat_lt b.max_ops (subtable_work (length b.items)) in
    elim (ends_table t start) as (λ s. length (if s then b else (if spent then charged b else behind)).items ≡ length b.items) [
      | true ↦ refl
      | false ↦ elim spent as (λ s. length (if s then charged b else behind).items ≡ length b.items) [
        | true ↦ refl
        | false ↦ length-from scale t mask n (start + length_of t start) next ∙ length-subtable_kerned scale t start mask (charged b)
      ]
    ]

pub length-table_kerned : (scale : Option Scale) (t : List ℕ) (mask : ℕ) (b : Buffer) → length (table_kerned scale t mask b).items ≡ length b.items
length-table_kerned scale t mask b =
    elim (nat_eq mask 0) as (λ s. length (if s then b else kerned_from scale t mask (subtable_count_of t) (first_start t) b).items ≡ length b.items) [
      | true ↦ refl
      | false ↦ length-from scale t mask (subtable_count_of t) (first_start t) b
    ]

-- ---- the limit

limit-break : (start end : ℕ) (b : Buffer) → limit_of (unsafe_to_break start end b) ≡ limit_of b
limit-break start end b = ap limit_of (without_items-unsafe_to_break start end b)

pub limit_concat : (end : ℕ) (b : Buffer) → limit_of (unsafe_to_concat 0 end b) ≡ limit_of b
limit_concat end b =
    elim (bit_and b.flags.0 PRODUCE_UNSAFE_TO_CONCAT == PRODUCE_UNSAFE_TO_CONCAT) as (λ t.
    limit_of (if t then record (with_glyph_flags b) { items = map_range mark_concat 0 end b.items } else b) ≡ limit_of b) [
      | true ↦ refl
      | false ↦ refl
    ]

pub limit_pair_moved : (scale : Option Scale) (i j : ℕ) (by : ℤ) (b : Buffer) → limit_of (pair_moved scale i j by b) ≡ limit_of b
limit_pair_moved =
    step-pair_moved (λ b c. limit_of c ≡ limit_of b) (λ b. refl)
    (λ a b c first later. later ∙ first) limit-break limit_concat
    (λ i p b. refl)
