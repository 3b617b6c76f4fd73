-- what one step over the subtables of a table, or over the glyphs of a buffer, does
use Rattle.std.proofs.Common.{◌≡◌, ℕ, suc, ◌<◌, ◌≤◌, ◌+◌, ◌-◌, Bool, true, false, not, nat_lt, Option, List, length, refl, arith}
use Rattle.std.proofs.lemmas.Bool.Decides.{nat_tests}
use Rattle.shape_items.specs.Buffer.{Buffer}
use Rattle.font_sizes.specs.declared.scales.Scale.{Scale}
use Rattle.kern_table.specs.Headers.{header_size, length_of, most_bytes, ends_table}
use Rattle.kern_table.specs.Tables.{subtable_work, charged, subtable_kerned, kerned_from}
use Rattle.kern_table.specs.Walk.{kerned_at, left_after, kerned_to}

not_true : (t : Bool) → true ≡ not t → t ≡ false
not_true true e = cc
not_true false e = refl

not_false : (t : Bool) → false ≡ not t → t ≡ true
not_false true e = refl
not_false false e = cc

-- a subtable that is as long as its header, and ends where a table may, ends none
goes_on : (t : List ℕ) (start : ℕ) → header_size t ≤ length_of t start → start + length_of t start ≤ most_bytes → ends_table t start ≡ false
goes_on t start whole within =
    let enough : nat_lt (length_of t start) (header_size t) ≡ false = grind (arith, nat_tests, whole) in
    let inside : nat_lt most_bytes (start + length_of t start) ≡ false = grind (arith, nat_tests, within) in
    rw (enough, inside) refl

pub kerned_from_next : (scale : Option Scale) (t : List ℕ) (mask n i start : ℕ) (b : Buffer) → i < n → header_size t ≤ length_of t start
    → start + length_of t start ≤ most_bytes → true ≡ not (nat_lt b.max_ops (subtable_work (length b.items)))
    → kerned_from scale t mask (n - i) start b
    ≡ kerned_from scale t mask (n - (i + 1)) (start + length_of t start) (subtable_kerned scale t start mask (charged b))
kerned_from_next scale t mask n i start b h whole within suffices =
    let e : n - i ≡ suc (n - (i + 1)) = omega arith in
    let goes : ends_table t start ≡ false = goes_on t start whole within in
    let paid : nat_lt b.max_ops (subtable_work (length b.items)) ≡ false = not_true (nat_lt b.max_ops (subtable_work (length b.items))) suffices in
    rw e (rw (goes, kerned_from) (rw paid refl))

pub kerned_from_short : (scale : Option Scale) (t : List ℕ) (mask n i start : ℕ) (b : Buffer) → i < n → length_of t start < header_size t
    → kerned_from scale t mask (n - i) start b ≡ b
kerned_from_short scale t mask n i start b h short =
    let e : n - i ≡ suc (n - (i + 1)) = omega arith in
    let few : nat_lt (length_of t start) (header_size t) ≡ true = grind (arith, nat_tests, short) in
    rw e (rw (few, kerned_from) refl)

pub kerned_from_long : (scale : Option Scale) (t : List ℕ) (mask n i start : ℕ) (b : Buffer) → i < n → header_size t ≤ length_of t start
    → most_bytes < start + length_of t start → kerned_from scale t mask (n - i) start b ≡ b
kerned_from_long scale t mask n i start b h whole long =
    let e : n - i ≡ suc (n - (i + 1)) = omega arith in
    let enough : nat_lt (length_of t start) (header_size t) ≡ false = grind (arith, nat_tests, whole) in
    let many : nat_lt most_bytes (start + length_of t start) ≡ true = grind (arith, nat_tests, long) in
    rw e (rw (enough, many, kerned_from) refl)

pub kerned_from_spent : (scale : Option Scale) (t : List ℕ) (mask n i start : ℕ) (b : Buffer) → i < n → header_size t ≤ length_of t start
    → start + length_of t start ≤ most_bytes → false ≡ not (nat_lt b.max_ops (subtable_work (length b.items)))
    → kerned_from scale t mask (n - i) start b ≡ charged b
kerned_from_spent scale t mask n i start b h whole within lacks =
    let e : n - i ≡ suc (n - (i + 1)) = omega arith in
    let goes : ends_table t start ≡ false = goes_on t start whole within in
    let spent : nat_lt b.max_ops (subtable_work (length b.items)) ≡ true = not_false (nat_lt b.max_ops (subtable_work (length b.items))) lacks in
    rw e (rw (goes, kerned_from) (rw spent refl))

pub kerned_from_end : (scale : Option Scale) (t : List ℕ) (mask n start : ℕ) (b : Buffer) → kerned_from scale t mask (n - n) start b ≡ b
kerned_from_end scale t mask n start b =
    let e : n - n ≡ 0 = omega arith in
    rw e refl

-- ---- what one glyph more does

pub kerned_to_next_buffer : (scale : Option Scale) (t : List ℕ) (start mask j : ℕ) (b : Buffer) → (kerned_to scale t start mask (j + 1) b).buffer
    ≡ kerned_at scale t start mask j (kerned_to scale t start mask j b).left (kerned_to scale t start mask j b).buffer
kerned_to_next_buffer scale t start mask j b =
    let e : j + 1 ≡ suc j = omega arith in
    rw e refl

pub kerned_to_next_left : (scale : Option Scale) (t : List ℕ) (start mask j : ℕ) (b : Buffer) → (kerned_to scale t start mask (j + 1) b).left
    ≡ left_after mask j (kerned_to scale t start mask j b).left (kerned_to scale t start mask j b).buffer.items
kerned_to_next_left scale t start mask j b =
    let e : j + 1 ≡ suc j = omega arith in
    rw e refl
