-- A lookup of type 1 puts the glyph of its first subtable that has one.
use Prim.Native.Nat.{zero}
use Rattle.std.proofs.Common.{◌≡◌, ℕ, suc, ◌+◌, ◌*◌, Bool, true, false, Option, Some, None, nat_eq, refl, sym, if◌then◌else◌}
use Rattle.std.specs.Option.{option_and_then, option_map_or, option_or}
use Rattle.shape_items.specs.Buffer.{Buffer}
use Rattle.shape_buffer.specs.Outcome.{IsWithinLimit}
use Rattle.layout_tables.specs.Lookups.{lookup_type_of, subtable_count_of, resolved}
use Rattle.layout_tables.specs.Offsets.{offset16_of}
use Rattle.layout_matching.specs.Loops.{first_some}
use Rattle.layout_matching.specs.declared.lookup.Lookup.{Lookup}
use Rattle.layout_substitution.specs.Applied.{Applied, unapplied, put_one}
use Rattle.layout_substitution.specs.Edits.{is_past, item_at}
use Rattle.layout_substitution.specs.Kinds.{kind_applied, or_next, subtables_applied, lookup_applied, single_in, singles_applied}
use Rattle.layout_substitution.specs.Substitutes.{single_of}
use Rattle.layout_substitution.specs.declared.apply.Spot.{Spot}
use Rattle.layout_substitution.proofs.KindLemmas.{past_is_false}

same-if : (t : Bool) (x : Applied) → (if t then x else x) ≡ x
same-if true x = refl
same-if false x = refl

-- the first subtable has a glyph, or the rest says what is made
or_rest : (l : Lookup) (spot : Spot) (b : Buffer) (next : Buffer → Applied) (rest : Option ℕ) → is_past b ≡ false
    → next b ≡ option_map_or (put_one l spot b) rest (unapplied b) → (o : Option ℕ)
    → or_next next (option_map_or (put_one l spot b) o (unapplied b))
    ≡ option_map_or (put_one l spot b) (option_or o rest) (unapplied b)
or_rest l spot b next rest within same None = rw within same
or_rest l spot b next rest within same (Some glyph) = same-if (is_past (put_one l spot b glyph).buffer) (put_one l spot b glyph)

by_offset : (l : Lookup) (spot : Spot) (b : Buffer) (next : Buffer → Applied) (rest : Option ℕ) (type : ℕ) → type ≡ 1
    → is_past b ≡ false → next b ≡ option_map_or (put_one l spot b) rest (unapplied b) → (o : Option ℕ)
    → or_next next (option_map_or (kind_applied l spot b) (option_and_then (resolved l.table.now 7 type) o) (unapplied b))
    ≡ option_map_or (put_one l spot b)
    (option_or (option_and_then (λ start. single_of l.table.now start (item_at b spot.at).glyph_id) o) rest) (unapplied b)
by_offset l spot b next rest type one within same None = or_rest l spot b next rest within same None
by_offset l spot b next rest type one within same (Some start) =
    rw one (or_rest l spot b next rest within same (single_of l.table.now start (item_at b spot.at).glyph_id))

each_single : (l : Lookup) (spot : Spot) (b : Buffer) → lookup_type_of l.table.now l.place ≡ 1 → is_past b ≡ false → (n i : ℕ)
    → subtables_applied l spot n i b
    ≡ option_map_or (put_one l spot b) (first_some (single_in l (item_at b spot.at).glyph_id) n i) (unapplied b)
each_single l spot b one within zero i = refl
each_single l spot b one within (suc n) i =
    by_offset l spot b (subtables_applied l spot n (suc i)) (first_some (single_in l (item_at b spot.at).glyph_id) n (suc i))
    (lookup_type_of l.table.now l.place) one within (each_single l spot b one within n (suc i))
    (offset16_of l.table.now l.place (l.place + 6 + 2 * i))

pub singles_alone : (l : Lookup) (spot : Spot) (b : Buffer) → lookup_type_of l.table.now l.place ≡ 1 → IsWithinLimit b
    → singles_applied l spot b ≡ lookup_applied l spot b
singles_alone l spot b one within =
    sym (each_single l spot b one (past_is_false b within) (subtable_count_of l.table.now l.place) 0)
