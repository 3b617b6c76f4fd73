-- what one step over the ranges of a charset does
use Rattle.std.proofs.Common.{◌≡◌, ℕ, suc, ◌<◌, ◌≤◌, ◌+◌, ◌-◌, true, false, nat_le, List, refl, arith}
use Rattle.std.proofs.lemmas.Bool.Decides.{nat_tests}
use Rattle.cff_tables.specs.Bytes.{word_of}
use Rattle.cff_tables.specs.Charset.{ranged_name, left_of, left_size, has_name, ranged_glyph}

pub ranged_name_next : (t : List ℕ) (format n i at glyph : ℕ) → i < n → left_of t format at < glyph
    → ranged_name (n - i) t format at glyph
    ≡ ranged_name (n - (i + 1)) t format (at + 2 + left_size format) (glyph - (left_of t format at + 1))
ranged_name_next t format n i at glyph h past =
    let e : n - i ≡ suc (n - (i + 1)) = omega arith in
    let no : nat_le glyph (left_of t format at) ≡ false = grind (arith, nat_tests, past) in
    rw e (rw (no, ranged_name) refl)

pub ranged_name_found : (t : List ℕ) (format n i at glyph : ℕ) → i < n → glyph ≤ left_of t format at
    → ranged_name (n - i) t format at glyph ≡ word_of t at + glyph
ranged_name_found t format n i at glyph h inside =
    let e : n - i ≡ suc (n - (i + 1)) = omega arith in
    let yes : nat_le glyph (left_of t format at) ≡ true = grind (arith, nat_tests, inside) in
    rw e (rw (yes, ranged_name) refl)

pub ranged_name_end : (t : List ℕ) (format n at glyph : ℕ) → ranged_name (n - n) t format at glyph ≡ 0
ranged_name_end t format n at glyph =
    let e : n - n ≡ 0 = omega arith in
    rw e refl

pub ranged_glyph_next : (t : List ℕ) (format count name n i at glyph : ℕ) → i < n → glyph < count → has_name t format at name ≡ false
    → ranged_glyph (n - i) t format count name at glyph
    ≡ ranged_glyph (n - (i + 1)) t format count name (at + 2 + left_size format) (glyph + left_of t format at + 1)
ranged_glyph_next t format count name n i at glyph h inside other =
    let e : n - i ≡ suc (n - (i + 1)) = omega arith in
    let more : nat_le count glyph ≡ false = grind (arith, nat_tests, inside) in
    rw e (rw (more, other, ranged_glyph) refl)

pub ranged_glyph_found : (t : List ℕ) (format count name n i at glyph : ℕ) → i < n → glyph < count → has_name t format at name ≡ true
    → ranged_glyph (n - i) t format count name at glyph ≡ glyph + (name - word_of t at)
ranged_glyph_found t format count name n i at glyph h inside it =
    let e : n - i ≡ suc (n - (i + 1)) = omega arith in
    let more : nat_le count glyph ≡ false = grind (arith, nat_tests, inside) in
    rw e (rw (more, it, ranged_glyph) refl)

pub ranged_glyph_past : (t : List ℕ) (format count name n i at glyph : ℕ) → i < n → count ≤ glyph
    → ranged_glyph (n - i) t format count name at glyph ≡ 0
ranged_glyph_past t format count name n i at glyph h past =
    let e : n - i ≡ suc (n - (i + 1)) = omega arith in
    let none : nat_le count glyph ≡ true = grind (arith, nat_tests, past) in
    rw e (rw (none, ranged_glyph) refl)

pub ranged_glyph_end : (t : List ℕ) (format count name n at glyph : ℕ) → ranged_glyph (n - n) t format count name at glyph ≡ 0
ranged_glyph_end t format count name n at glyph =
    let e : n - n ≡ 0 = omega arith in
    rw e refl
