-- Lookups over a list, computed by hand: tables of 16-bit words as the standard lays them out, each with glyph 5 covered.
use Rattle.std.specs.Prelude.{◌≡◌, ℕ, ◌/◌, ◌%◌, List, [], ◌∷◌, ◌++◌, map, true, false, refl}
use Rattle.shape_items.specs.Buffer.{Buffer, new_buffer}
use Rattle.shape_items.specs.Clusters.{merge}
use Rattle.shape_items.specs.Items.{Item, new_item, new_properties}
use Rattle.shape_common.specs.Positions.{zero_position}
use Rattle.layout_matching.specs.declared.lookup.Lookup.{Lookup}
use Rattle.layout_substitution.specs.Replaced.{is_multiplied, as_ligature}
use Rattle.layout_context.specs.Stages.{looked_up}

abbrev pub words : List ℕ → List ℕ
words [] = []
words (w ∷ ws) = w / 256 ∷ w % 256 ∷ words ws

-- a lookup of one subtable, which stands right after it
abbrev pub lookup_words : ℕ → List ℕ → List ℕ
lookup_words kind subtable = words (kind ∷ 0 ∷ 1 ∷ 8 ∷ subtable)

-- a subtable of format 1 with one set, for glyph 5
abbrev pub set_words : ℕ → List ℕ → List ℕ
set_words kind set = lookup_words kind (1 ∷ 8 ∷ 1 ∷ 14 ∷ 1 ∷ 1 ∷ 5 ∷ set)

-- format 1: three glyphs further; format 2: glyph 20 for 5, glyph 21 for 6
abbrev pub single_1 : List ℕ
single_1 = lookup_words 1 (1 ∷ 6 ∷ 3 ∷ 1 ∷ 1 ∷ 5 ∷ [])

abbrev pub single_2 : List ℕ
single_2 = lookup_words 1 (2 ∷ 10 ∷ 2 ∷ 20 ∷ 21 ∷ 1 ∷ 2 ∷ 5 ∷ 6 ∷ [])

abbrev pub three_for_one : List ℕ
three_for_one = set_words 2 (3 ∷ 30 ∷ 31 ∷ 32 ∷ [])

abbrev pub none_for_one : List ℕ
none_for_one = set_words 2 (0 ∷ [])

abbrev pub alternates : List ℕ
alternates = set_words 3 (2 ∷ 40 ∷ 41 ∷ [])

-- 5 6 7 makes 50, 5 6 makes 51
abbrev pub ligatures : List ℕ
ligatures = set_words 4 (2 ∷ 6 ∷ 14 ∷ 50 ∷ 3 ∷ 6 ∷ 7 ∷ 51 ∷ 2 ∷ 6 ∷ [])

-- a table with a header and two lookups: 5 before 6 has lookup 1 applied to it, which makes 30 31 32 of it; the first lookup
-- stands at place 16
abbrev pub context : List ℕ
context = words (1 ∷ 0 ∷ 0 ∷ 0 ∷ 10 ∷ 2 ∷ 6 ∷ 40 ∷ [])
    ++ words (5 ∷ 0 ∷ 1 ∷ 8 ∷ 3 ∷ 2 ∷ 1 ∷ 14 ∷ 20 ∷ 0 ∷ 1 ∷ 1 ∷ 1 ∷ 5 ∷ 1 ∷ 1 ∷ 6 ∷ []) ++ three_for_one

-- 9 before 5 makes 60 of it, from the end of the list
abbrev pub backwards : List ℕ
backwards = lookup_words 8 (1 ∷ 14 ∷ 1 ∷ 20 ∷ 0 ∷ 1 ∷ 60 ∷ 1 ∷ 1 ∷ 5 ∷ 1 ∷ 2 ∷ 9 ∷ 60 ∷ [])

-- the lookup at a place of a table, on for bit 16 of masks, or for a value counted in 16
abbrev pub on : Lookup → ℕ → ℕ → Lookup
on l place flags = record l {
  place = place;
  flags = flags;
  mark_set = 0;
  mask = 0xF0;
  unit = 16;
  auto_zwnj = true;
  auto_zwj = true;
  per_syllable = false;
  random = false;
  positioning = false;
}

-- a glyph in a cluster, with value 1 for the lookup; one for which it is off; a mark
abbrev pub glyph : ℕ → ℕ → Item
glyph g cluster = record (new_item 0 cluster) { glyph_id = g; mask = 16 }

abbrev pub off : Item → Item
off item = record item { mask = 0 }

abbrev pub mark : ℕ → ℕ → Item
mark g cluster = record (glyph g cluster) { properties = record new_properties { glyph_class = record { 0 = 8 } } }

abbrev pub zwnj : ℕ → Item
zwnj cluster = record (glyph 3 cluster) { properties = record new_properties { ignorable = true; zwnj = true } }

abbrev pub zwj : ℕ → Item
zwj cluster = record (glyph 3 cluster) { properties = record new_properties { ignorable = true; zwj = true } }

abbrev pub list : List Item → Buffer
list items = record new_buffer { items = items; positions = map (λ i. zero_position) items }

abbrev pub glyphs : Buffer → List ℕ
glyphs b = map (λ (x : Item). x.glyph_id) b.items

abbrev pub clusters_of : Buffer → List ℕ
clusters_of b = map (λ (x : Item). x.cluster) b.items

-- after the lookup has gone over the list, with so much left
abbrev pub after_with : ℕ → Lookup → List Item → Buffer
after_with left l items = (looked_up 3 l (record {
  buffer = list items;
  spot =
      record { at = 0; random = 1; left = left; whole = 0 };
})).buffer

abbrev pub after : Lookup → List Item → Buffer
after l items = after_with 999 l items

-- a lookup over these bytes of `GSUB` and of `GDEF`
abbrev pub over_tables : List ℕ → List ℕ → Lookup → Lookup
over_tables table gdef l = record l { table = record l.table { now = table }; gdef = record l.gdef { now = gdef } }

abbrev pub Holds : List ℕ → (Lookup → Type 0) → Type 0
Holds table fact = (l : Lookup) → fact (over_tables table [] l)

pub record WorkedLookups : Type 0 where
  pub distance : Holds single_1 (λ l. glyphs (after (on l 0 0) (glyph 5 0 ∷ glyph 6 1 ∷ glyph 5 2 ∷ [])) ≡ 8 ∷ 6 ∷ 8 ∷ [])
  pub one_for_one : Holds single_2 (λ l. glyphs (after (on l 0 0) (glyph 6 0 ∷ glyph 5 1 ∷ glyph 7 2 ∷ [])) ≡ 21 ∷ 20 ∷ 7 ∷ [])
  pub off_for_a_glyph : Holds single_2 (λ l. glyphs (after (on l 0 0) (glyph 6 0 ∷ off (glyph 5 1) ∷ [])) ≡ 21 ∷ 5 ∷ [])
  pub several : Holds three_for_one (λ l. glyphs (after (on l 0 0) (glyph 4 0 ∷ glyph 5 1 ∷ glyph 4 2 ∷ [])) ≡ 4 ∷ 30 ∷ 31 ∷ 32 ∷ 4 ∷ [])
  pub several_in_one_cluster : Holds three_for_one
      (λ l. clusters_of (after (on l 0 0) (glyph 4 0 ∷ glyph 5 1 ∷ glyph 4 2 ∷ [])) ≡ 0 ∷ 1 ∷ 1 ∷ 1 ∷ 2 ∷ [])
  pub deleted : Holds none_for_one (λ l. glyphs (after (on l 0 0) (glyph 4 0 ∷ glyph 5 1 ∷ glyph 4 2 ∷ [])) ≡ 4 ∷ 4 ∷ [])
  pub first_deleted : Holds none_for_one (λ l. clusters_of (after (on l 0 0) (glyph 5 0 ∷ glyph 4 1 ∷ [])) ≡ 0 ∷ [])
  pub least_cluster_deleted : Holds none_for_one
      (λ l. clusters_of (after (on l 0 0) (glyph 4 3 ∷ glyph 4 2 ∷ glyph 4 2 ∷ glyph 5 1 ∷ glyph 4 0 ∷ [])) ≡ 3 ∷ 1 ∷ 1 ∷ 0 ∷ [])
  pub second_alternate : Holds alternates (λ l. glyphs (after (on l 0 0) (record (glyph 5 0) { mask = 32 } ∷ [])) ≡ 41 ∷ [])
  pub no_third_alternate : Holds alternates (λ l. glyphs (after (on l 0 0) (record (glyph 5 0) { mask = 48 } ∷ [])) ≡ 5 ∷ [])
  pub first_ligature : Holds ligatures (λ l. glyphs (after (on l 0 0) (glyph 5 0 ∷ glyph 6 1 ∷ glyph 7 2 ∷ [])) ≡ 50 ∷ [])
  pub second_ligature : Holds ligatures (λ l. glyphs (after (on l 0 0) (glyph 5 0 ∷ glyph 6 1 ∷ glyph 6 2 ∷ [])) ≡ 51 ∷ 6 ∷ [])
  pub over_a_mark : Holds ligatures (λ l. glyphs (after (on l 0 8) (glyph 5 0 ∷ mark 9 1 ∷ glyph 6 2 ∷ [])) ≡ 51 ∷ 9 ∷ [])
  pub over_a_mark_in_one_cluster : Holds ligatures
      (λ l. clusters_of (after (on l 0 8) (glyph 5 0 ∷ mark 9 1 ∷ glyph 6 2 ∷ glyph 4 3 ∷ [])) ≡ 0 ∷ 0 ∷ 3 ∷ [])
  pub stopped_by_a_mark : Holds ligatures (λ l. glyphs (after (on l 0 0) (glyph 5 0 ∷ mark 9 1 ∷ glyph 6 2 ∷ [])) ≡ 5 ∷ 9 ∷ 6 ∷ [])
  pub stopped_by_zwnj : Holds ligatures (λ l. glyphs (after (on l 0 0) (glyph 5 0 ∷ zwnj 1 ∷ glyph 6 2 ∷ [])) ≡ 5 ∷ 3 ∷ 6 ∷ [])
  pub over_zwj : Holds ligatures (λ l. glyphs (after (on l 0 0) (glyph 5 0 ∷ zwj 1 ∷ glyph 6 2 ∷ [])) ≡ 51 ∷ 3 ∷ [])
  pub nested : Holds context (λ l. glyphs (after (on l 16 0) (glyph 5 0 ∷ glyph 6 1 ∷ glyph 5 2 ∷ [])) ≡ 30 ∷ 31 ∷ 32 ∷ 6 ∷ 5 ∷ [])
  pub no_nested_left : Holds context (λ l. glyphs (after_with 0 (on l 16 0) (glyph 5 0 ∷ glyph 6 1 ∷ [])) ≡ 5 ∷ 6 ∷ [])
  pub from_the_end : Holds backwards (λ l. glyphs (after (on l 0 0) (glyph 9 0 ∷ glyph 5 1 ∷ glyph 5 2 ∷ [])) ≡ 9 ∷ 60 ∷ 5 ∷ [])

pub worked_lookups : WorkedLookups
unfolding merge is_multiplied as_ligature
worked_lookups = record {
  distance = λ l. refl;
  one_for_one = λ l. refl;
  off_for_a_glyph = λ l. refl;
  several = λ l. refl;
  several_in_one_cluster = λ l. refl;
  deleted = λ l. refl;
  first_deleted = λ l. refl;
  least_cluster_deleted = λ l. refl;
  second_alternate = λ l. refl;
  no_third_alternate = λ l. refl;
  first_ligature = λ l. refl;
  second_ligature = λ l. refl;
  over_a_mark = λ l. refl;
  over_a_mark_in_one_cluster = λ l. refl;
  stopped_by_a_mark = λ l. refl;
  stopped_by_zwnj = λ l. refl;
  over_zwj = λ l. refl;
  nested = λ l. refl;
  no_nested_left = λ l. refl;
  from_the_end = λ l. refl;
}
