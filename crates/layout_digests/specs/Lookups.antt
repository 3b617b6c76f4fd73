-- the glyphs that a lookup may begin at, and sets that hold them
use Rattle.std.specs.Prelude.{◌≡◌, ℕ, Bool, true, List, Some, is_some, ◌<◌, ◌||◌, nat_eq, length, slice_index_or, if◌then◌else◌}
use Rattle.shape_font.specs.Bytes.{u16_of}
use Rattle.layout_tables.specs.Lookups.{lookup_of, subtable_count_of, subtable_of}
use Rattle.layout_tables.specs.declared.lookups.LookupSubtable.{LookupSubtable}
use Rattle.layout_matching.specs.Found.{whole_rule, is_first, number_of}
use Rattle.layout_digests.specs.declared.digest.Digest.{Digest}
use Rattle.layout_digests.specs.Digests.{has}

-- context, chained context and extension: 5, 6 and 7 in `GSUB`, 7, 8 and 9 in `GPOS`
abbrev pub is_chained_kind : Bool → ℕ → Bool
is_chained_kind positioning kind = nat_eq kind (if positioning then 8 else 6)

abbrev pub is_context_kind : Bool → ℕ → Bool
is_context_kind positioning kind = nat_eq kind (if positioning then 7 else 5) || is_chained_kind positioning kind

abbrev pub extension_kind : Bool → ℕ
extension_kind positioning = if positioning then 9 else 7

-- a rule of format 3 has a list for each glyph, any other subtable one for the first glyph
abbrev pub begins_at : List ℕ → Bool → LookupSubtable → ℕ → Bool
begins_at t positioning subtable glyph = if is_context_kind positioning subtable.kind
    then (if nat_eq (u16_of t subtable.start) 3
    then is_first t subtable.start (whole_rule t (is_chained_kind positioning subtable.kind) subtable.start) glyph
    else is_some (number_of t subtable.start glyph))
    else is_some (number_of t subtable.start glyph)

-- a set that holds the glyphs that subtable `i` of the lookup at a place begins at
abbrev pub HasFirst : List ℕ → Bool → ℕ → ℕ → Digest → Type 0
HasFirst t positioning place i d = (subtable : LookupSubtable) (glyph : ℕ)
    → subtable_of t (extension_kind positioning) place i ≡ Some subtable
    → begins_at t positioning subtable glyph ≡ true → has d glyph ≡ true

abbrev pub HasFirsts : List ℕ → Bool → ℕ → Digest → ℕ → Type 0
HasFirsts t positioning place d count = (i : ℕ) → i < count → HasFirst t positioning place i d

-- a set that holds the glyphs that the lookup at a place may begin at
abbrev pub IsDigest : List ℕ → Bool → ℕ → Digest → Type 0
IsDigest t positioning place d = HasFirsts t positioning place d (subtable_count_of t place)

-- the same of the lookup with an index
abbrev pub IsDigestAt : List ℕ → Bool → ℕ → Digest → Type 0
IsDigestAt t positioning index d = (place : ℕ) → lookup_of t index ≡ Some place → IsDigest t positioning place d

abbrev pub no_digest : Digest
no_digest = record { fine = 0; halves = 0; quarters = 0; middle = 0; blocks = 0; coarse = 0 }

-- a set for each lookup of the table, by its index
abbrev pub AreDigests : List ℕ → Bool → List Digest → Type 0
AreDigests t positioning ds = (index : ℕ) → index < length ds → IsDigestAt t positioning index (slice_index_or ds index no_digest)
