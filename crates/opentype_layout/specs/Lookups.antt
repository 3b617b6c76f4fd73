-- the lookups of a plan, ready to be applied
use Rattle.std.specs.Prelude.{◌≡◌, ℕ, Bool, List, [], ◌∷◌, ◌++◌, Option, ◌^◌, ◌*◌, ◌&&◌, ◌||◌, max, not, nat_eq, fold, if◌then◌else◌}
use Rattle.std.specs.Option.{option_map, option_map_or}
use Rattle.std.specs.Int.{w32, trailing_zeros}
use Rattle.layout_tables.specs.Lookups as tables
use Rattle.layout_tables.specs.Offsets.{header_offset_of}
use Rattle.layout_map.specs.declared.lookups.LookupMap.{LookupMap}
use Rattle.layout_digests.specs.declared.stored.Head.{Head}
use Rattle.layout_matching.specs.Work.{PLAIN_WORK, STEP_WORK}
use Rattle.layout_matching.specs.declared.lookup.Lookup.{Lookup}
use Rattle.opentype_layout.specs.declared.lookups.LookupList.{LookupList}
use Rattle.opentype_layout.specs.declared.lookups.LookupTables.{LookupTables}

abbrev pub least_bit : ℕ → ℕ
least_bit mask = if nat_eq mask 0 then 0 else 2 ^ trailing_zeros w32 mask

-- a lookup that stands at a place of its table, used as a plan says
abbrev pub lookup_at : LookupTables → LookupMap → ℕ → Lookup
lookup_at t m place = record {
  table = t.table;
  gdef = t.gdef;
  coordinates = t.coordinates;
  device_work = t.device_work;
  scale = t.scale;
  place = place;
  flags = tables.lookup_flag_of t.table.now place;
  mark_set = tables.mark_filtering_set_of t.table.now place;
  mask = m.mask;
  unit = least_bit m.mask;
  auto_zwnj = m.auto_zwnj;
  auto_zwj = m.auto_zwj;
  per_syllable = m.per_syllable;
  random = m.random;
  positioning = t.positioning;
}

-- the same lookup by what is stored of it
abbrev pub lookup_by : LookupTables → LookupMap → Head → Lookup
lookup_by t m h = record {
  table = t.table;
  gdef = t.gdef;
  coordinates = t.coordinates;
  device_work = t.device_work;
  scale = t.scale;
  place = h.place;
  flags = h.flags;
  mark_set = h.mark_set;
  mask = m.mask;
  unit = least_bit m.mask;
  auto_zwnj = m.auto_zwnj;
  auto_zwj = m.auto_zwj;
  per_syllable = m.per_syllable;
  random = m.random;
  positioning = t.positioning;
}

-- what its subtables cost at each item, if it is one of substitution
abbrev pub steps_work_by : Head → Bool → ℕ
steps_work_by h random = max h.subtables 1
    * (if nat_eq h.kind 1 || nat_eq h.kind 2 || (nat_eq h.kind 3 && not random) then PLAIN_WORK else STEP_WORK)

-- the table's list of lookups
pub record IsListOf (table : List ℕ) (l : LookupList) : Type 0 where
  pub place : l.place ≡ header_offset_of table 8
  pub count : l.count ≡ tables.lookup_count_of table

-- none if the table has no lookup with this index
abbrev pub lookup_of : LookupTables → LookupMap → Option Lookup
lookup_of t m = option_map (lookup_at t m) (tables.lookup_of t.table.now m.index)

abbrev pub with_lookup : LookupTables → List Lookup → LookupMap → List Lookup
with_lookup t lookups m = option_map_or (λ l. lookups ++ l ∷ []) (lookup_of t m) lookups

abbrev pub lookups_of : LookupTables → List LookupMap → List Lookup
lookups_of t maps = fold (with_lookup t) [] maps
