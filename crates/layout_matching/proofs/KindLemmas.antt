-- lookups whose type alone says that they aren't of context
use Prim.Native.Nat.{zero}
use Rattle.std.proofs.Common.{◌≡◌, ℕ, suc, ◌<◌, ◌+◌, ◌*◌, Bool, true, false, Option, Some, None, nat_eq, refl, arith, if◌then◌else◌}
use Rattle.std.proofs.lemmas.Bool.Decides.{nat_tests}
use Rattle.std.specs.Option.{option_and_then, option_map_or, option_or}
use Rattle.layout_tables.specs.Lookups.{lookup_type_of, resolved, subtable_count_of}
use Rattle.layout_tables.specs.Offsets.{offset16_of}
use Rattle.layout_matching.specs.Found.{context_kind, chained_kind, extension_kind, is_context_subtable, subtable_at, is_context}
use Rattle.layout_matching.specs.Loops.{first_some}
use Rattle.layout_matching.specs.declared.lookup.Lookup.{Lookup}

no_context : (l : Lookup) → nat_eq (lookup_type_of l.table.now l.place) (context_kind l) ≡ false
    → nat_eq (lookup_type_of l.table.now l.place) (chained_kind l) ≡ false
    → nat_eq (lookup_type_of l.table.now l.place) (extension_kind l) ≡ false
    → (n i : ℕ) → option_map_or (is_context_subtable l) (first_some (subtable_at l) n i) false ≡ false
no_context l context chained far zero i = refl
no_context l context chained far (suc n) i =
    by_offset (offset16_of l.table.now l.place (l.place + 6 + 2 * i)) (no_context l context chained far n (suc i))
  where
    by_offset : (o : Option ℕ) → option_map_or (is_context_subtable l) (first_some (subtable_at l) n (suc i)) false ≡ false
        → option_map_or (is_context_subtable l)
        (option_or (option_and_then (resolved l.table.now (extension_kind l) (lookup_type_of l.table.now l.place)) o)
        (first_some (subtable_at l) n (suc i))) false ≡ false
    by_offset None rest = rest
    by_offset (Some start) rest = rw far (rw context (rw chained refl))

other : (t : Bool) (n a b : ℕ) → n < a → n < b → nat_eq n (if t then a else b) ≡ false
other true n a b m k = grind (arith, nat_tests, m)
other false n a b m k = grind (arith, nat_tests, k)

pub plain_kind : (l : Lookup) → lookup_type_of l.table.now l.place < 5 → is_context l ≡ false
plain_kind l least =
    let type = lookup_type_of l.table.now l.place in
    no_context l (other l.positioning type 7 5 (omega (arith, least)) least)
    (other l.positioning type 8 6 (omega (arith, least)) (omega (arith, least)))
    (other l.positioning type 9 7 (omega (arith, least)) (omega (arith, least))) (subtable_count_of l.table.now l.place) 0
