-- what the type of a lookup says of its subtables
use Prim.Native.Nat.{zero}
use Rattle.std.proofs.Common.{◌≡◌, ℕ, suc, ◌<◌, ◌+◌, ◌*◌, ◌&&◌, ◌||◌, not, true, false, Option, Some, None, nat_eq, refl, sym, ap, ◌∙◌, arith, max, min, if◌then◌else◌}
use Rattle.std.proofs.lemmas.Bool.Decides.{nat_tests}
use Rattle.std.specs.Option.{option_map_or, option_and_then, option_or}
use Rattle.shape_items.specs.Buffer.{most_countable}
use Rattle.layout_tables.specs.Lookups.{lookup_type_of, resolved, subtable_count_of}
use Rattle.layout_tables.specs.Offsets.{offset16_of}
use Rattle.layout_tables.specs.declared.lookups.LookupSubtable.{LookupSubtable}
use Rattle.layout_matching.specs.Found.{extension_kind, is_context_subtable, subtable_at, is_context}
use Rattle.layout_matching.specs.Loops.{first_some}
use Rattle.layout_matching.specs.Work.{is_plain, PLAIN_WORK, STEP_WORK, devices_work, walk_work}
use Rattle.layout_matching.specs.declared.lookup.Lookup.{Lookup}

abbrev not-context : Lookup → Option LookupSubtable → Type 0
not-context l o = option_map_or (is_context_subtable l) o false ≡ false

-- a subtable is of the type of the lookup
of-kind : (l : Lookup) (start : ℕ) → l.positioning ≡ true → lookup_type_of l.table.now l.place < 7
    → not-context l (resolved l.table.now (extension_kind l) (lookup_type_of l.table.now l.place) start)
of-kind l start gpos small =
    let kind = lookup_type_of l.table.now l.place in
    let far : nat_eq kind 9 ≡ false = grind (arith, nat_tests, small) in
    let seven : nat_eq kind 7 ≡ false = grind (arith, nat_tests, small) in
    let eight : nat_eq kind 8 ≡ false = grind (arith, nat_tests, small) in
    rw gpos (rw far (rw seven (rw eight refl)))

at-offset : (l : Lookup) → l.positioning ≡ true → lookup_type_of l.table.now l.place < 7 → (o : Option ℕ)
    → not-context l (option_and_then (resolved l.table.now (extension_kind l) (lookup_type_of l.table.now l.place)) o)
at-offset l gpos small None = refl
at-offset l gpos small (Some start) = of-kind l start gpos small

or-not : (l : Lookup) (o rest : Option LookupSubtable) → not-context l o → not-context l rest → not-context l (option_or o rest)
or-not l None rest first later = later
or-not l (Some s) rest first later = first

first-not : (l : Lookup) (f : ℕ → Option LookupSubtable) → ((k : ℕ) → not-context l (f k)) → (n i : ℕ) → not-context l (first_some f n i)
first-not l f each zero i = refl
first-not l f each (suc n) i = or-not l (f i) (first_some f n (suc i)) (each i) (first-not l f each n (suc i))

pub plain_kind : (l : Lookup) → l.positioning ≡ true → lookup_type_of l.table.now l.place < 7 → is_context l ≡ false
plain_kind l gpos small = first-not l (subtable_at l) (λ k. at-offset l gpos small (offset16_of l.table.now l.place (l.place + 6 + 2 * k))) _ 0

-- so each subtable costs as much as one of a plain lookup
pub plain_walk : (l : Lookup) (count parts total : ℕ) → l.positioning ≡ true → is_context l ≡ false
    → parts ≡ max (subtable_count_of l.table.now l.place) 1 → total ≡ min (count * (parts * (PLAIN_WORK + l.device_work))) most_countable
    → total ≡ walk_work l count
plain_walk l count parts total gpos none many is =
    let type = lookup_type_of l.table.now l.place in
    let plain : is_plain l ≡ true =
    ap (λ t. if t then not (is_context l) else nat_eq type 1 || nat_eq type 2 || (nat_eq type 3 && not l.random)) gpos ∙ ap not none in
    is ∙ ap (λ p. min (count * (p * (PLAIN_WORK + l.device_work))) most_countable) many
    ∙ ap (λ t. min (count * (max (subtable_count_of l.table.now l.place) 1 * (PLAIN_WORK + (if t then l.device_work else 0)))) most_countable) (sym gpos)
    ∙ ap (λ t. min (count * (max (subtable_count_of l.table.now l.place) 1 * (if t then PLAIN_WORK + devices_work l else STEP_WORK))) most_countable) (sym plain)
