-- a subtable of ligatures is charged for the set of the glyph
use Rattle.std.proofs.Common.{◌≡◌, ℕ, ◌+◌, ◌*◌, Bool, false, List, Option, Some, None, refl}
use Rattle.std.specs.Option.{option_and_then, option_map, option_map_or}
use Rattle.shape_items.specs.Items.{Item}
use Rattle.layout_tables.specs.Lookups.{lookup_type_of, resolved}
use Rattle.layout_tables.specs.Offsets.{offset16_of}
use Rattle.layout_tables.specs.declared.lookups.LookupSubtable.{LookupSubtable}
use Rattle.layout_matching.specs.Found.{number_of, subtable_at}
use Rattle.layout_matching.specs.Rules.{rules_at}
use Rattle.layout_matching.specs.Skipping.{nth}
use Rattle.layout_matching.specs.Work.{passed, passed_charged, beside, has_classes, set_tries, tries_made, set_passed, set_charged, parts_charged, numbered_charged, subtable_charged}
use Rattle.layout_matching.specs.declared.lookup.Lookup.{Lookup}
use Rattle.layout_matching.specs.declared.tally.Tally.{Tally}
use Rattle.layout_matching.proofs.PassingLemmas.{passed_free}

pub ligature_parts : (l : Lookup) (items : List Item) (at : ℕ) (subtable : LookupSubtable) (number left : ℕ)
    → l.positioning ≡ false → subtable.kind ≡ 4
    → parts_charged l items at subtable number left
    ≡ option_map_or (set_charged l items at subtable left) (rules_at l.table.now subtable.start 4 number)
    (passed_charged l false items at (beside left))
ligature_parts l items at subtable number left gsub kind = rw gsub (rw kind refl)

pub ligature_charged : (l : Lookup) (items : List Item) (at left start : ℕ) → l.positioning ≡ false
    → subtable_charged l items at left (record { kind = 4; start = start })
    ≡ option_map_or (numbered_charged l items at (record { kind = 4; start = start }) left)
    (number_of l.table.now start (nth items at).glyph_id) (Some left)
ligature_charged l items at left start gsub = rw gsub refl

-- where nothing is passed over, nothing more is charged than the ligatures of the set
pub set_free : (l : Lookup) (items : List Item) (at : ℕ) (subtable : LookupSubtable) (set : ℕ) (s : Tally)
    → ((listed : Bool) → passed l listed items at s ≡ 0) → set_passed l items at subtable set s ≡ Some s.left
set_free l items at subtable set s none =
    passed_free l (has_classes l subtable) items at (record s { tries = tries_made (set_tries l items at subtable set) })
    (none (has_classes l subtable))

ligature-resolved : (t : List ℕ) (o : Option ℕ)
    → option_and_then (resolved t 7 4) o ≡ option_map (λ start. record { kind = 4; start = start }) o
ligature-resolved t None = refl
ligature-resolved t (Some start) = refl

-- subtable `i` of a lookup of ligatures, by its offset
pub ligature_subtable : (l : Lookup) (i : ℕ) → l.positioning ≡ false → lookup_type_of l.table.now l.place ≡ 4
    → subtable_at l i
    ≡ option_map (λ start. record { kind = 4; start = start }) (offset16_of l.table.now l.place (l.place + 6 + 2 * i))
ligature_subtable l i gsub type = rw gsub (rw type (ligature-resolved l.table.now (offset16_of l.table.now l.place (l.place + 6 + 2 * i))))
