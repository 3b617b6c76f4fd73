-- what costs nothing
use Prim.Native.Nat.{zero}
use Rattle.std.proofs.Common.{◌≡◌, ℕ, suc, ◌+◌, ◌≤◌, ◌<◌, ◌&&◌, Bool, true, false, List, Option, Some, None, is_some, nat_eq, refl, ap, ◌∙◌, arith, if◌then◌else◌}
use Rattle.std.specs.Option.{option_and_then, option_map_or}
use Rattle.shape_font.specs.Bytes.{u16_of}
use Rattle.shape_items.specs.Items.{Item}
use Rattle.layout_tables.specs.Lookups.{subtable_count_of}
use Rattle.layout_tables.specs.declared.lookups.LookupSubtable.{LookupSubtable}
use Rattle.layout_matching.specs.Firsts.{begins}
use Rattle.layout_matching.specs.Found.{is_chained, is_context_subtable, whole_rule, is_first, number_of}
use Rattle.layout_matching.specs.Loops.{steps}
use Rattle.layout_matching.specs.Skipping.{nth}
use Rattle.layout_matching.specs.Work.{numbered_charged, subtable_charged, charged_at_subtable, is_paid, subtables_charged, lookup_charged}
use Rattle.layout_matching.specs.declared.lookup.Lookup.{Lookup}

pub steps_still : {S : Type 0} (f : ℕ → S → Option S) (s : S) (n k : ℕ) → ((i : ℕ) → k ≤ i → i < k + n → f i s ≡ Some s)
    → steps f n k s ≡ Some s
steps_still f s zero k each = refl
steps_still f s (suc n) k each =
    ap (option_and_then (steps f n (suc k))) (each k (omega arith) (omega arith))
    ∙ steps_still f s n (suc k) (λ i from below. each i (omega (arith, from)) (omega (arith, below)))

pub subtable_free : (l : Lookup) (items : List Item) (at left : ℕ) (subtable : LookupSubtable)
    → begins l subtable (nth items at).glyph_id ≡ false → subtable_charged l items at left subtable ≡ Some left
subtable_free l items at left subtable =
    by_kind (is_context_subtable l subtable) (nat_eq (u16_of l.table.now subtable.start) 3)
    (is_first l.table.now subtable.start (whole_rule l.table.now (is_chained l subtable) subtable.start) (nth items at).glyph_id)
    (number_of l.table.now subtable.start (nth items at).glyph_id) _
  where
    by_number : (o : Option ℕ) → is_some o ≡ false → option_map_or (numbered_charged l items at subtable left) o (Some left) ≡ Some left
    by_number None none = refl
    by_number (Some number) none = cc

    by_first : (t : Bool) (x : Option ℕ) → t ≡ false → (if t then x else Some left) ≡ Some left
    by_first true x not = cc
    by_first false x not = refl

    by_kind : (t u first : Bool) (o : Option ℕ) (x : Option ℕ)
        → (if t then (if u then first else is_some o) else is_some o) ≡ false
        → (if t && u then (if first then x else Some left) else option_map_or (numbered_charged l items at subtable left) o (Some left))
        ≡ Some left
    by_kind true true first o x not = by_first first x not
    by_kind true false first o x not = by_number o not
    by_kind false true first o x not = by_number o not
    by_kind false false first o x not = by_number o not

pub plain_free : (l : Lookup) (items : List Item) (at left : ℕ) (plain : Bool)
    → subtables_charged l items at left ≡ Some left → (if plain then Some left else subtables_charged l items at left) ≡ Some left
plain_free l items at left true free = refl
plain_free l items at left false free = free

pub lookup_free : (l : Lookup) (items : List Item) (at left : ℕ)
    → ((i : ℕ) → i < subtable_count_of l.table.now l.place → charged_at_subtable l items at i left ≡ Some left)
    → lookup_charged l items at left ≡ Some left
lookup_free l items at left each =
    plain_free l items at left (is_paid l (nth items at))
    (steps_still (charged_at_subtable l items at) left (subtable_count_of l.table.now l.place) 0
    (λ i from below. each i (omega (arith, below))))
