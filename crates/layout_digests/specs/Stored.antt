-- what is stored of the lookups of a table, and of their subtables
use Rattle.std.specs.Prelude.{◌≡◌, ℕ, Bool, false, List, Some, None, All, ◌^◌, ◌+◌, ◌≤◌, ◌<◌, length, slice_index_or}
use Rattle.std.specs.Option.{IfSome, option_map}
use Rattle.layout_tables.specs.Lookups.{lookup_of, lookup_flag_of, lookup_type_of, mark_filtering_set_of, subtable_count_of, subtable_of}
use Rattle.layout_tables.specs.declared.lookups.LookupSubtable.{LookupSubtable}
use Rattle.layout_matching.specs.Firsts.{may_begin, no_first}
use Rattle.layout_matching.specs.declared.firsts.First.{First}
use Rattle.layout_digests.specs.Lookups.{begins_at, extension_kind, IsDigest, no_digest}
use Rattle.layout_digests.specs.declared.stored.Head.{Head}
use Rattle.layout_digests.specs.declared.stored.StoredLookup.{StoredLookup}

-- so many of the stored ones, from one place on, are of the subtables of the lookup at a place: each begins at no glyph that isn't
-- among its own
abbrev pub HoldsFirsts : List ℕ → Bool → ℕ → List First → ℕ → ℕ → Type 0
HoldsFirsts t positioning place firsts from count = (i glyph : ℕ) → i < count
    → may_begin (slice_index_or firsts (from + i) no_first) glyph ≡ false → (subtable : LookupSubtable)
    → subtable_of t (extension_kind positioning) place i ≡ Some subtable → begins_at t positioning subtable glyph ≡ false

-- the same of the lookup with an index
abbrev pub HoldsFirstsAt : List ℕ → Bool → ℕ → List First → ℕ → ℕ → Type 0
HoldsFirstsAt t positioning index firsts from count = (place : ℕ) → lookup_of t index ≡ Some place
    → HoldsFirsts t positioning place firsts from count

-- a list goes on after another one
pub record Extends (before after : List First) : Type 0 where
  pub longer : length before ≤ length after
  pub same : (i : ℕ) → i < length before → slice_index_or after i no_first ≡ slice_index_or before i no_first

-- its flags and its set of marks, its type, and how many subtables the lookup at the head's place has
pub record IsHead (t : List ℕ) (h : Head) : Type 0 where
  pub near : h.place < 2 ^ 17
  pub flags : h.flags ≡ lookup_flag_of t h.place
  pub mark_set : h.mark_set ≡ mark_filtering_set_of t h.place
  pub kind : h.kind ≡ lookup_type_of t h.place
  pub subtables : h.subtables ≡ subtable_count_of t h.place
  pub few : h.subtables < 2 ^ 16

-- what is stored of the lookup at a place
pub record IsStored (t : List ℕ) (positioning : Bool) (place : ℕ) (firsts : List First) (s : StoredLookup) : Type 0 where
  pub digest : IsDigest t positioning place s.digest
  pub subtables : HoldsFirsts t positioning place firsts s.from s.count

-- the same of the lookup with an index, and where it stands; none if the table has no such lookup
pub record IsStoredAt (t : List ℕ) (positioning : Bool) (index : ℕ) (firsts : List First) (s : StoredLookup) : Type 0 where
  pub place : option_map (λ (h : Head). h.place) s.head ≡ lookup_of t index
  pub head : IfSome s.head (IsHead t)
  pub stored : (place : ℕ) → lookup_of t index ≡ Some place → IsStored t positioning place firsts s

abbrev pub no_lookup : StoredLookup
no_lookup = record { head = None; digest = no_digest; from = 0; count = 0 }

-- of each lookup of the table, by its index
abbrev pub AreStored : List ℕ → Bool → List First → List StoredLookup → Type 0
AreStored t positioning firsts ss = (index : ℕ) → index < length ss → IsStoredAt t positioning index firsts (slice_index_or ss index no_lookup)

-- none of their subtables is beyond the stored ones
abbrev pub AreInside : List First → List StoredLookup → Type 0
AreInside firsts ss = All (λ (s : StoredLookup). s.from + s.count ≤ length firsts) ss
