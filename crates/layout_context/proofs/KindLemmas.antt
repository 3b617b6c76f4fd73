-- lookups whose type alone says that they go forwards
use Prim.Native.Nat.{zero}
use Rattle.std.proofs.Common.{◌≡◌, ℕ, suc, ◌<◌, ◌+◌, ◌*◌, Bool, true, false, Option, Some, None, nat_eq, refl, arith, if◌then◌else◌}
use Rattle.std.proofs.lemmas.Bool.Decides.{nat_tests}
use Rattle.std.specs.Option.{option_and_then, option_map_or, option_or}
use Rattle.layout_tables.specs.Lookups.{lookup_type_of, resolved, subtable_count_of}
use Rattle.layout_tables.specs.Offsets.{offset16_of}
use Rattle.layout_tables.specs.declared.lookups.LookupSubtable.{LookupSubtable}
use Rattle.layout_matching.specs.Found.{extension_kind, subtable_at}
use Rattle.layout_matching.specs.Loops.{first_some}
use Rattle.layout_matching.specs.declared.lookup.Lookup.{Lookup}
use Rattle.layout_context.specs.Reverse.{is_reverse}

abbrev goes-back : LookupSubtable → Bool
goes-back s = nat_eq s.kind 8

none_back : (l : Lookup) → nat_eq (lookup_type_of l.table.now l.place) 8 ≡ false
    → nat_eq (lookup_type_of l.table.now l.place) (extension_kind l) ≡ false
    → (n i : ℕ) → option_map_or goes-back (first_some (subtable_at l) n i) false ≡ false
none_back l back far zero i = refl
none_back l back far (suc n) i =
    by_offset (offset16_of l.table.now l.place (l.place + 6 + 2 * i)) (none_back l back far n (suc i))
  where
    by_offset : (o : Option ℕ) → option_map_or goes-back (first_some (subtable_at l) n (suc i)) false ≡ false
        → option_map_or goes-back
        (option_or (option_and_then (resolved l.table.now (extension_kind l) (lookup_type_of l.table.now l.place)) o)
        (first_some (subtable_at l) n (suc i))) false ≡ false
    by_offset None rest = rest
    by_offset (Some start) rest = rw far (rw back refl)

other : (t : Bool) (n a b : ℕ) → n < a → n < b → nat_eq n (if t then a else b) ≡ false
other true n a b m k = grind (arith, nat_tests, m)
other false n a b m k = grind (arith, nat_tests, k)

pub forward_kind : (l : Lookup) → lookup_type_of l.table.now l.place < 7 → is_reverse l ≡ false
forward_kind l least =
    let type = lookup_type_of l.table.now l.place in
    none_back l (grind (arith, nat_tests, least)) (other l.positioning type 9 7 (omega (arith, least)) least)
    (subtable_count_of l.table.now l.place) 0
