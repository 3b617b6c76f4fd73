-- What is stored of a set of ligatures: what it costs, and which glyphs may follow the first one.
use Rattle.std.specs.Prelude.{◌≡◌, ℕ, List, Bool, true, false, Option, Some, None, ◌+◌, ◌<◌, ◌^◌, slice_index_or, length}
use Rattle.std.specs.Option.{ForSome, option_and_then, option_map, option_map_or}
use Rattle.shape_font.specs.Bytes.{u16_of, fitting}
use Rattle.layout_tables.specs.Offsets.{offset16_of}
use Rattle.layout_matching.specs.Firsts.{may_begin, no_first}
use Rattle.layout_matching.specs.Found.{number_of}
use Rattle.layout_matching.specs.Loops.{steps}
use Rattle.layout_matching.specs.Rules.{rules_at, rule_place}
use Rattle.layout_matching.specs.Sifted.{AreOut}
use Rattle.layout_matching.specs.Work.{beside, charged, counted, ligature_counts, null_counted, SUBTABLE_WORK}
use Rattle.layout_matching.specs.declared.glance.Glance.TheVariants.{Closed, Only}
use Rattle.layout_matching.specs.declared.ligature_sets.LigatureSet.{LigatureSet}
use Rattle.layout_matching.specs.declared.ligature_sets.StoredSets.{StoredSets}
use Rattle.layout_matching.specs.declared.lookup.Lookup.{Lookup}
use Rattle.layout_matching.specs.declared.tally.Tally.{Tally}

-- ligature `r` of a set, counted by the table alone
abbrev pub ligature_counted : List ℕ → ℕ → ℕ → Tally → Option Tally
ligature_counted t set r s = option_map_or (λ place. counted (ligature_counts t place) s) (rule_place t set r) (null_counted s)

-- the first so many of a set
abbrev pub ligatures_counted : List ℕ → ℕ → ℕ → ℕ → Option Tally
ligatures_counted t set n left = steps (ligature_counted t set) n 0 (beside left)

abbrev pub count_of : List ℕ → ℕ → ℕ
count_of t set = fitting t (u16_of t set) (set + 2) 2

-- what is left after a set of which this is stored, and how far it looks
abbrev pub set_paid : LigatureSet → ℕ → Option Tally
set_paid s left = option_map (λ rest. record { left = rest; before = 1; after = s.after; tries = s.tries }) (charged s.work left)

-- the same after its subtable
abbrev pub subtable_paid : LigatureSet → ℕ → Option Tally
subtable_paid s left = option_and_then (set_paid s) (charged SUBTABLE_WORK left)

-- what is stored of the first so many ligatures: what they cost; a glyph that isn't among the second ones refuses each, and so does
-- the end of the list, if each has a second one
pub record HasFirst (t : List ℕ) (set n : ℕ) (s : LigatureSet) : Type 0 where
  pub paid : (left : ℕ) → ligatures_counted t set n left ≡ set_paid s left
  pub seconds : (glyph : ℕ) → may_begin s.seconds glyph ≡ false → AreOut t (Only glyph) set n
  pub closed : s.is_closed ≡ true → AreOut t Closed set n

abbrev pub HasSet : List ℕ → ℕ → LigatureSet → Type 0
HasSet t set s = HasFirst t set (count_of t set) s

abbrev pub no_set : LigatureSet
no_set = record { start = 0; set = 0; work = 0; after = 0; tries = 0; seconds = no_first; is_closed = false }

-- where the first subtable of a lookup at a place stands
abbrev pub first_start : List ℕ → ℕ → Option ℕ
first_start t place = offset16_of t place (place + 6)

-- what is stored of the set of a glyph in the subtable at a place
pub record IsSetIn (t : List ℕ) (at glyph : ℕ) (s : LigatureSet) : Type 0 where
  pub start : s.start ≡ at
  pub near : s.start < 2 ^ 35
  pub close : s.set < 2 ^ 36
  pub set : option_and_then (rules_at t s.start 4) (number_of t s.start glyph) ≡ Some s.set
  pub has : HasSet t s.set s

-- in the first subtable of a lookup at a place
pub record IsSetFor (t : List ℕ) (place glyph : ℕ) (s : LigatureSet) : Type 0 where
  pub first : first_start t place ≡ Some s.start
  pub held : IsSetIn t s.start glyph s

-- and of the glyphs from the first one on
abbrev pub AreSets : List ℕ → ℕ → StoredSets → Type 0
AreSets t place stored = (i : ℕ) → i < length stored.numbers.items → ForSome (slice_index_or stored.numbers.items i None)
    (λ n. n < length stored.sets.items → IsSetFor t place (stored.first + i) (slice_index_or stored.sets.items n no_set))
