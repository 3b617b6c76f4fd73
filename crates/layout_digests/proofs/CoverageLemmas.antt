-- what a Coverage table covers is what it lists
use Prim.Native.Nat.{zero}
use Rattle.std.proofs.Common.{◌≡◌, ℕ, suc, Bool, true, false, List, Option, Some, None, ◌+◌, ◌-◌, ◌*◌, ◌/◌, ◌≤◌, ◌<◌, nat_eq, nat_lt, is_some, refl, sym, ap, subst, ◌∙◌, arith, if◌then◌else◌}
use Rattle.std.proofs.lemmas.Bool.Decides.{nat_tests}
use Rattle.std.specs.Option.{option_map}
use Rattle.std.specs.declared.cmp.Ordering.{Ordering}
use Rattle.std.specs.declared.cmp.Ordering.TheVariants.{Less, Equal, Greater}
use Rattle.shape_font.specs.Bytes.{u16_of, fitting}
use Rattle.shape_font.specs.Search.{side_of, found_in, found_by}
use Rattle.layout_tables.specs.Coverage.{side_of_listed, listed, side_of_range, ranged, index_in_range, coverage_index, covers}
use Rattle.layout_digests.specs.declared.digest.Digest.{Digest}
use Rattle.layout_digests.specs.Digests.{has, HasGlyphs, IsWithin}
use Rattle.layout_digests.specs.Coverages.{HasListed, listed_count, HasRanges, range_count, HasCovered}

-- ---- one entry more

pub one_listed : (t : List ℕ) (start : ℕ) (d e : Digest) (i : ℕ) → HasListed t start d i → IsWithin d e
    → HasGlyphs e (u16_of t (start + 4 + 2 * i)) (u16_of t (start + 4 + 2 * i)) → HasListed t start e (i + 1)
one_listed t start d e i before kept new j below = by_last (nat_eq j i) refl
  where
    by_last : (t' : Bool) → nat_eq j i ≡ t' → has e (u16_of t (start + 4 + 2 * j)) ≡ true
    by_last true is =
        let same : i ≡ j = grind (arith, nat_tests, is) in
        subst (λ k. has e (u16_of t (start + 4 + 2 * k)) ≡ true) same (new (u16_of t (start + 4 + 2 * i)) (omega arith) (omega arith))
    by_last false is = kept (u16_of t (start + 4 + 2 * j)) (before j (grind (arith, nat_tests, is, below)))

pub one_range : (t : List ℕ) (start : ℕ) (d e : Digest) (i : ℕ) → HasRanges t start d i → IsWithin d e
    → HasGlyphs e (u16_of t (start + 4 + 6 * i)) (u16_of t (start + 4 + 6 * i + 2)) → HasRanges t start e (i + 1)
one_range t start d e i before kept new j below = by_last (nat_eq j i) refl
  where
    by_last : (t' : Bool) → nat_eq j i ≡ t' → HasGlyphs e (u16_of t (start + 4 + 6 * j)) (u16_of t (start + 4 + 6 * j + 2))
    by_last true is =
        let same : i ≡ j = grind (arith, nat_tests, is) in
        subst (λ k. HasGlyphs e (u16_of t (start + 4 + 6 * k)) (u16_of t (start + 4 + 6 * k + 2))) same new
    by_last false is = λ g low high. kept g (before j (grind (arith, nat_tests, is, below)) g low high)

pub within_then : (d e f : Digest) → IsWithin d e → IsWithin e f → IsWithin d f
within_then d e f one two g is = two g (one g is)

-- ---- what a search finds

found_equal : (side : ℕ → Ordering) (n start end i : ℕ) → found_in side n start end ≡ Some i → side i ≡ Equal
found_equal side zero start end i is = cc
found_equal side (suc n) start end i is =
    let middle : ℕ = start + (end - start - 1) / 2 in
    by_test (found_equal side n start middle i) (found_equal side n (middle + 1) end i) (nat_lt start end) is
  where
    middle_of : ℕ
    middle_of = start + (end - start - 1) / 2

    by_side : (found_in side n start middle_of ≡ Some i → side i ≡ Equal) → (found_in side n (middle_of + 1) end ≡ Some i → side i ≡ Equal)
        → (o : Ordering) → side middle_of ≡ o
        → (elim o as (λ _. Option ℕ) [
          | Less ↦ found_in side n start middle_of
          | Equal ↦ Some middle_of
          | Greater ↦ found_in side n (middle_of + 1) end
        ]) ≡ Some i → side i ≡ Equal
    by_side less greater Less e found = less found
    by_side less greater Equal e found = let same : middle_of ≡ i = cc in ap side (sym same) ∙ e
    by_side less greater Greater e found = greater found

    by_test : (found_in side n start middle_of ≡ Some i → side i ≡ Equal) → (found_in side n (middle_of + 1) end ≡ Some i → side i ≡ Equal)
        → (t : Bool) → (elim t as (λ _. Option ℕ) [
          | true ↦ elim (side middle_of) as (λ _. Option ℕ) [
            | Less ↦ found_in side n start middle_of
            | Equal ↦ Some middle_of
            | Greater ↦ found_in side n (middle_of + 1) end
          ]
          | false ↦ None
        ]) ≡ Some i → side i ≡ Equal
    by_test less greater true found = by_side less greater (side middle_of) refl found
    by_test less greater false found = cc

found_below : (side : ℕ → Ordering) (n start end i : ℕ) → found_in side n start end ≡ Some i → i < end
found_below side zero start end i is = cc
found_below side (suc n) start end i is =
    let middle : ℕ = start + (end - start - 1) / 2 in
    by_test (found_below side n start middle i) (found_below side n (middle + 1) end i) (nat_lt start end) refl is
  where
    middle_of : ℕ
    middle_of = start + (end - start - 1) / 2

    by_side : (found_in side n start middle_of ≡ Some i → i < middle_of) → (found_in side n (middle_of + 1) end ≡ Some i → i < end)
        → start < end → (o : Ordering)
        → (elim o as (λ _. Option ℕ) [
          | Less ↦ found_in side n start middle_of
          | Equal ↦ Some middle_of
          | Greater ↦ found_in side n (middle_of + 1) end
        ]) ≡ Some i → i < end
    by_side less greater some Less found = let below = less found in omega (arith, some, below)
    by_side less greater some Equal found = let same : middle_of ≡ i = cc in omega (arith, some, same)
    by_side less greater some Greater found = greater found

    by_test : (found_in side n start middle_of ≡ Some i → i < middle_of) → (found_in side n (middle_of + 1) end ≡ Some i → i < end)
        → (t : Bool) → nat_lt start end ≡ t → (elim t as (λ _. Option ℕ) [
          | true ↦ elim (side middle_of) as (λ _. Option ℕ) [
            | Less ↦ found_in side n start middle_of
            | Equal ↦ Some middle_of
            | Greater ↦ found_in side n (middle_of + 1) end
          ]
          | false ↦ None
        ]) ≡ Some i → i < end
    by_test less greater true e found = by_side less greater (grind (arith, nat_tests, e)) (side middle_of) found
    by_test less greater false e found = cc

-- ---- the side says where a number is

equal_low : (n start end : ℕ) → side_of n start end ≡ Equal → start ≤ n
equal_low n start end is = by_test (nat_lt n start) refl is
  where
    by_test : (t : Bool) → nat_lt n start ≡ t → (if t then Less else (if nat_lt end n then Greater else Equal)) ≡ Equal → start ≤ n
    by_test true e is = cc
    by_test false e is = grind (arith, nat_tests, e)

equal_high : (n start end : ℕ) → side_of n start end ≡ Equal → n ≤ end
equal_high n start end is = by_test (nat_lt n start) is
  where
    by_end : (t : Bool) → nat_lt end n ≡ t → (if t then Greater else Equal) ≡ Equal → n ≤ end
    by_end true e is = cc
    by_end false e is = grind (arith, nat_tests, e)

    by_test : (t : Bool) → (if t then Less else (if nat_lt end n then Greater else Equal)) ≡ Equal → n ≤ end
    by_test true is = cc
    by_test false is = by_end (nat_lt end n) refl is

-- ---- coverage

in_list : (t : List ℕ) (start : ℕ) (d : Digest) → HasListed t start d (listed_count t start) → (g : ℕ) (o : Option ℕ)
    → listed t start g ≡ o → is_some o ≡ true → has d g ≡ true
in_list t start d all g None e is = cc
in_list t start d all g (Some i) e is =
    let side = side_of_listed t start g in
    let n = listed_count t start in
    let there = u16_of t (start + 4 + 2 * i) in
    let equal = found_equal side n 0 n i e in
    let below = found_below side n 0 n i e in
    let low = equal_low g there there equal in
    let high = equal_high g there there equal in
    let same : there ≡ g = omega (arith, low, high) in
    subst (λ k. has d k ≡ true) same (all i below)

in_ranges : (t : List ℕ) (start : ℕ) (d : Digest) → HasRanges t start d (range_count t start) → (g : ℕ) (o : Option ℕ)
    → ranged t start g ≡ o → is_some (option_map (index_in_range t start g) o) ≡ true → has d g ≡ true
in_ranges t start d all g None e is = cc
in_ranges t start d all g (Some i) e is =
    let side = side_of_range t start g in
    let n = range_count t start in
    let equal = found_equal side n 0 n i e in
    all i (found_below side n 0 n i e) g (equal_low g (u16_of t (start + 4 + 6 * i)) (u16_of t (start + 4 + 6 * i + 2)) equal)
    (equal_high g (u16_of t (start + 4 + 6 * i)) (u16_of t (start + 4 + 6 * i + 2)) equal)

-- the glyph is in the set if the table covers it by its format
small_only : (g : ℕ) (o : Option ℕ) (X : Type 0) → (is_some o ≡ true → X) → is_some (if nat_lt 0xFFFF g then None else o) ≡ true → X
small_only g o X go is = by_test (nat_lt 0xFFFF g) is
  where
    by_test : (t : Bool) → is_some (if t then None else o) ≡ true → X
    by_test true is = cc
    by_test false is = go is

pub covered_listed : (t : List ℕ) (start : ℕ) (d : Digest) → u16_of t start ≡ 1 → HasListed t start d (listed_count t start) → HasCovered t start d
covered_listed t start d format all g is =
    let one : nat_eq (u16_of t start) 1 ≡ true = grind (arith, nat_tests, format) in
    small_only g (if nat_eq (u16_of t start) 1 then listed t start g
    else (if nat_eq (u16_of t start) 2 then option_map (index_in_range t start g) (ranged t start g) else None)) (has d g ≡ true)
    (λ said. in_list t start d all g (listed t start g) refl
    (subst (λ b. is_some (if b then listed t start g
    else (if nat_eq (u16_of t start) 2 then option_map (index_in_range t start g) (ranged t start g) else None)) ≡ true) one said)) is

pub covered_ranges : (t : List ℕ) (start : ℕ) (d : Digest) → u16_of t start ≡ 2 → HasRanges t start d (range_count t start) → HasCovered t start d
covered_ranges t start d format all g is =
    let one : nat_eq (u16_of t start) 1 ≡ false = grind (arith, nat_tests, format) in
    let two : nat_eq (u16_of t start) 2 ≡ true = grind (arith, nat_tests, format) in
    small_only g (if nat_eq (u16_of t start) 1 then listed t start g
    else (if nat_eq (u16_of t start) 2 then option_map (index_in_range t start g) (ranged t start g) else None)) (has d g ≡ true)
    (λ said. in_ranges t start d all g (ranged t start g) refl
    (subst (λ b. is_some (if b then option_map (index_in_range t start g) (ranged t start g) else None) ≡ true) two
    (subst (λ b. is_some (if b then listed t start g
    else (if nat_eq (u16_of t start) 2 then option_map (index_in_range t start g) (ranged t start g) else None)) ≡ true) one said))) is

pub covered_none : (t : List ℕ) (start : ℕ) (d : Digest) → nat_eq (u16_of t start) 1 ≡ false → nat_eq (u16_of t start) 2 ≡ false → HasCovered t start d
covered_none t start d one two g is =
    small_only g (if nat_eq (u16_of t start) 1 then listed t start g
    else (if nat_eq (u16_of t start) 2 then option_map (index_in_range t start g) (ranged t start g) else None)) (has d g ≡ true)
    (λ said.
    let none : false ≡ true =
    subst (λ b. is_some (if b then option_map (index_in_range t start g) (ranged t start g) else None) ≡ true) two
    (subst (λ b. is_some (if b then listed t start g
    else (if nat_eq (u16_of t start) 2 then option_map (index_in_range t start g) (ranged t start g) else None)) ≡ true) one said) in
    cc) is
