-- The subtables of a lookup, one by one.
use Prim.Native.Nat.{zero}
use Rattle.std.proofs.Common.{◌≡◌, ℕ, suc, ◌+◌, ◌-◌, ◌<◌, Bool, true, false, Option, Some, None, length, nat_eq, refl, sym, ap, subst, arith, if◌then◌else◌, Result, Ok, Err}
use Rattle.std.proofs.lemmas.Bool.Decides.{nat_tests}
use Rattle.std.specs.Option.{unwrap_or}
use Rattle.std.specs.Prelude.{IsErrOf}
use Rattle.shape_buffer.specs.Outcome.{IsWithinLimit}
use Rattle.shape_buffer.specs.declared.buffer.error.ShapeError.{ShapeError}
use Rattle.shape_items.specs.Buffer.{Buffer, limit_of}
use Rattle.layout_tables.specs.Lookups.{subtable_count_of, subtable_of}
use Rattle.layout_tables.specs.declared.lookups.LookupSubtable.{LookupSubtable}
use Rattle.layout_matching.specs.declared.lookup.Lookup.{Lookup}
use Rattle.layout_substitution.specs.Applied.{Applied, unapplied, multiple_applied}
use Rattle.layout_substitution.specs.Edits.{is_past}
use Rattle.layout_substitution.specs.Kinds.{kind_applied, subtable_applied, or_else, subtables_applied, lookup_applied}
use Rattle.layout_substitution.specs.declared.apply.Spot.{Spot}
use Rattle.layout_substitution.proofs.AppliedLemmas.{single-preserves, multiple-preserves, alternate-preserves, ligature-preserves, or_unapplied, applied-if}
use Rattle.layout_substitution.proofs.PreservedLemmas.{Preserves, Preserves-same, Preserves-then}

-- ---- the limit stays

pub limit-preserves : (b c : Buffer) → Preserves b c → limit_of c ≡ limit_of b
limit-preserves b c k = ap (λ l. unwrap_or l 18446744073709551615) k.limit

past-preserves : (b c : Buffer) → Preserves b c → limit_of b < length c.items → is_past c ≡ true
past-preserves b c k past =
    let same = limit-preserves b c k in
    let more : limit_of c < length c.items = subst (λ n. n < length c.items) (sym same) past in
    grind (arith, nat_tests, more)

pub past_multiple : (l : Lookup) (start : ℕ) (spot : Spot) (b : Buffer) → limit_of b < length (multiple_applied l start spot b).buffer.items
    → is_past (multiple_applied l start spot b).buffer ≡ true
past_multiple l start spot b past = past-preserves b (multiple_applied l start spot b).buffer (multiple-preserves l start spot b) past

-- ---- subtables of a lookup

pub subtables_next : (l : Lookup) (spot : Spot) (n i : ℕ) (b : Buffer) → i < n → is_past (subtable_applied l i spot b).buffer ≡ false
    → (subtable_applied l i spot b).next ≡ None
    → subtables_applied l spot (n - i) i b ≡ subtables_applied l spot (n - (i + 1)) (i + 1) (subtable_applied l i spot b).buffer
subtables_next l spot n i b more within none =
    let e : n - i ≡ suc (n - (i + 1)) = omega (arith, more) in
    let s : suc i ≡ i + 1 = omega arith in
    rw e (rw within (rw none (rw s refl)))

pub subtables_found : (l : Lookup) (spot : Spot) (n i : ℕ) (b : Buffer) (there : Spot) → i < n → (subtable_applied l i spot b).next ≡ Some there
    → subtables_applied l spot (n - i) i b ≡ subtable_applied l i spot b
subtables_found l spot n i b there more is =
    let e : n - i ≡ suc (n - (i + 1)) = omega (arith, more) in
    let P : Bool → Type 0 = λ t. (if t then subtable_applied l i spot b
    else or_else (subtables_applied l spot (n - (i + 1)) (suc i)) (subtable_applied l i spot b)
    (subtable_applied l i spot b).next) ≡ subtable_applied l i spot b in
    let cases : P (is_past (subtable_applied l i spot b).buffer) = elim (is_past (subtable_applied l i spot b).buffer) as P [
      | true ↦ refl
      | false ↦ ap (or_else (subtables_applied l spot (n - (i + 1)) (suc i)) (subtable_applied l i spot b)) is
    ] in
    rw e cases

pub subtables_past : (l : Lookup) (spot : Spot) (n i : ℕ) (b : Buffer) → i < n → is_past (subtable_applied l i spot b).buffer ≡ true
    → subtables_applied l spot (n - i) i b ≡ subtable_applied l i spot b
subtables_past l spot n i b more past =
    let e : n - i ≡ suc (n - (i + 1)) = omega (arith, more) in
    rw e (rw past refl)

pub subtables_end : (l : Lookup) (spot : Spot) (n : ℕ) (b : Buffer) → subtables_applied l spot (n - n) n b ≡ unapplied b
subtables_end l spot n b =
    let e : n - n ≡ 0 = omega arith in
    rw e refl

pub past_is_false : (b : Buffer) → IsWithinLimit b → is_past b ≡ false
past_is_false b within = grind (arith, nat_tests, within)

-- ---- what a lookup preserves

kind-preserves : (l : Lookup) (spot : Spot) (b : Buffer) (subtable : LookupSubtable) → Preserves b (kind_applied l spot b subtable).buffer
kind-preserves l spot b subtable =
    applied-if (nat_eq subtable.kind 1) b _ _ (single-preserves l subtable.start spot b)
    (applied-if (nat_eq subtable.kind 2) b _ _ (multiple-preserves l subtable.start spot b)
    (applied-if (nat_eq subtable.kind 3) b _ _ (alternate-preserves l subtable.start spot b)
    (applied-if (nat_eq subtable.kind 4) b _ _ (ligature-preserves l subtable.start spot b) (Preserves-same b))))

subtable-preserves : (l : Lookup) (i : ℕ) (spot : Spot) (b : Buffer) → Preserves b (subtable_applied l i spot b).buffer
subtable-preserves l i spot b = or_unapplied (kind_applied l spot b) b (kind-preserves l spot b) (subtable_of l.table.now 7 l.place i)

else-preserves : (next : Buffer → Applied) (b : Buffer) (made : Applied) → Preserves b made.buffer
    → ((c : Buffer) → Preserves c (next c).buffer) → (o : Option Spot) → Preserves b (or_else next made o).buffer
else-preserves next b made k each (Some spot) = k
else-preserves next b made k each None = Preserves-then b made.buffer (next made.buffer).buffer k (each made.buffer)

subtables-preserves : (l : Lookup) (spot : Spot) (n i : ℕ) (b : Buffer) → Preserves b (subtables_applied l spot n i b).buffer
subtables-preserves l spot zero i b = Preserves-same b
subtables-preserves l spot (suc n) i b =
    let made = subtable_applied l i spot b in
    applied-if (is_past made.buffer) b made _ (subtable-preserves l i spot b)
    (else-preserves (subtables_applied l spot n (suc i)) b made (subtable-preserves l i spot b) (λ c. subtables-preserves l spot n (suc i) c) made.next)

pub lookup-preserves : (l : Lookup) (spot : Spot) (b : Buffer) → Preserves b (lookup_applied l spot b).buffer
lookup-preserves l spot b = subtables-preserves l spot (subtable_count_of l.table.now l.place) 0 b

-- ---- errors

abbrev error_in : {T : Type 0} → ShapeError → Result T ShapeError → ShapeError
error_in other (Ok x) = other
error_in other (Err error) = error

pub same_error : {T U : Type 0} (error other : ShapeError) → IsErrOf {T = T} (Err error) other → IsErrOf {T = U} (Err error) other
same_error {T} {U} error other is =
    let wrap : ShapeError → Result U ShapeError = λ e. Err e in
    let said : Result T ShapeError → ShapeError = error_in other in
    ap wrap (ap said is)
