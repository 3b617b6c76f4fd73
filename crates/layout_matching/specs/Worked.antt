-- Rules of context, computed by hand on tables of 16-bit words.
pub mod Work
pub mod LigatureSets
pub mod WholeRules
pub mod Passing
pub mod Glance
pub mod Would
pub mod Sought
pub mod Tries
pub mod Seeking
pub mod Tried
use Rattle.std.specs.Prelude.{◌≡◌, ℕ, ◌+◌, Bool, List, [], ◌∷◌, Some, None, true, false, refl}
use Rattle.shape_font.specs.Worked.Glyphs.{words}
use Rattle.shape_items.specs.Items.{Item}
use Rattle.std.specs.Option.{option_map}
use Rattle.layout_matching.specs.Found.{found_if, found_at, is_context, set_by_class, rule_of}
use Rattle.layout_matching.specs.Rules.{fits_row, is_inside, plain_rule, chained}
use Rattle.layout_matching.specs.declared.lookup.Lookup.{Lookup}
use Rattle.layout_matching.specs.declared.rules.Rule.{Rule}
use Rattle.layout_matching.specs.declared.rules.Test.TheVariants.{Glyph}
use Rattle.layout_matching.specs.declared.spans.Origin.{Origin}

-- format 2 with a NULL ClassDef: class 0 has one set, at 16. Its bytes, read as a ClassDef of format 2, would put glyph 3 into class 2
abbrev pub null_classes : List ℕ
null_classes = words (2 ∷ 10 ∷ 0 ∷ 1 ∷ 16 ∷ 1 ∷ 1 ∷ 3 ∷ 1 ∷ 4 ∷ 2 ∷ 1 ∷ 0 ∷ 0 ∷ 1 ∷ [])

-- chained, format 2: glyph 5 is of class 1, which has a set at 30. Its one rule, at 34, wants class 0 before the glyph and class 0
-- after it, by NULL ClassDefs. The bytes, read as a ClassDef of format 2, would put glyph 5 into class 1
abbrev pub null_around : List ℕ
null_around = words (2 ∷ 16 ∷ 0 ∷ 22 ∷ 0 ∷ 2 ∷ 0 ∷ 30 ∷ 1 ∷ 1 ∷ 5 ∷ 1 ∷ 5 ∷ 1 ∷ 1 ∷ 1 ∷ 4 ∷ 1 ∷ 0 ∷ 1 ∷ 1 ∷ 0 ∷ 1 ∷ 0 ∷ 1 ∷ [])

pub record WorkedNullClasses : Type 0 where
  pub set_of_class_0 : set_by_class null_classes false 0 3 ≡ Some 16
  pub any_second_glyph : fits_row null_classes (rule_of null_classes false 0 20).input 0 3 ≡ true
  pub set_of_class_1 : set_by_class null_around true 0 5 ≡ Some 30
  pub set_of_another_glyph : set_by_class null_around true 0 7 ≡ None
  pub any_glyph_before : fits_row null_around (rule_of null_around true 0 34).before 0 5 ≡ true
  pub any_glyph_after : fits_row null_around (rule_of null_around true 0 34).after 0 5 ≡ true

pub worked_null_classes : WorkedNullClasses
worked_null_classes = record {
  set_of_class_0 = refl;
  any_second_glyph = refl;
  set_of_class_1 = refl;
  set_of_another_glyph = refl;
  any_glyph_before = refl;
  any_glyph_after = refl;
}

-- a rule of one glyph with three records, of which the table has one
abbrev pub records_cut : List ℕ
records_cut = words (1 ∷ 3 ∷ 0 ∷ 1 ∷ [])

-- format 1, and a rule of one glyph
abbrev pub one_glyph_alone : List ℕ
one_glyph_alone = words (1 ∷ 1 ∷ 0 ∷ [])

abbrev pub rule_at_0 : List ℕ → Rule
rule_at_0 t = plain_rule t Glyph 0 0 4

abbrev pub chain_at_0 : List ℕ → Rule
chain_at_0 t = chained t Glyph 0 0 0 0 0

pub record WorkedEnds : Type 0 where
  pub one_record : is_inside (words (1 ∷ 1 ∷ 0 ∷ 1 ∷ [])) (rule_at_0 (words (1 ∷ 1 ∷ 0 ∷ 1 ∷ []))) ≡ true
  pub two_records_missing : is_inside records_cut (rule_at_0 records_cut) ≡ false
  pub no_record : is_inside (words (2 ∷ 0 ∷ 9 ∷ [])) (rule_at_0 (words (2 ∷ 0 ∷ 9 ∷ []))) ≡ true
  pub value_missing : is_inside (words (2 ∷ 0 ∷ [])) (rule_at_0 (words (2 ∷ 0 ∷ []))) ≡ false
  pub chain : is_inside (words (1 ∷ 9 ∷ 1 ∷ 1 ∷ 9 ∷ 1 ∷ 0 ∷ 1 ∷ [])) (chain_at_0 (words (1 ∷ 9 ∷ 1 ∷ 1 ∷ 9 ∷ 1 ∷ 0 ∷ 1 ∷ []))) ≡ true
  pub chain_cut : is_inside (words (1 ∷ 9 ∷ 1 ∷ 1 ∷ 9 ∷ 1 ∷ 0 ∷ [])) (chain_at_0 (words (1 ∷ 9 ∷ 1 ∷ 1 ∷ 9 ∷ 1 ∷ 0 ∷ []))) ≡ false
  -- the rule at 2 of a subtable of format 1: one glyph, and no lookup; at 4 its numbers are cut
  pub one_glyph : (l : Lookup) (items : List Item) (at : ℕ) → l.table.now ≡ one_glyph_alone
      → option_map (λ found. found.span)
      (found_at (record l { positioning = false }) items (record { at = at; is_steady = true }) (record { kind = 5; start = 0 }) 2)
      ≡ Some (record { start = at; last = at; end = at + 1 })
  pub past_the_end : (l : Lookup) (items : List Item) (origin : Origin) → l.table.now ≡ one_glyph_alone
      → found_at (record l { positioning = false }) items origin (record { kind = 5; start = 0 }) 4 ≡ None
  pub cut_matches_nothing : (l : Lookup) (items : List Item) (origin : Origin) → l.table.now ≡ records_cut
      → found_if l items origin (rule_at_0 records_cut) ≡ None

pub worked_ends : WorkedEnds
worked_ends = record {
  one_record = refl;
  two_records_missing = refl;
  no_record = refl;
  value_missing = refl;
  chain = refl;
  chain_cut = refl;
  one_glyph = λ l items at t. rw t refl;
  past_the_end = λ l items origin t. rw t refl;
  cut_matches_nothing = λ l items origin t. rw t refl;
}

-- a lookup whose first offset is NULL; its second subtable is there, or stands for one of the type
abbrev pub null_first : ℕ → List ℕ
null_first kind = words (kind ∷ 0 ∷ 2 ∷ 0 ∷ 10 ∷ 3 ∷ [])

abbrev pub null_first_extension : ℕ → List ℕ
null_first_extension kind = words (7 ∷ 0 ∷ 2 ∷ 0 ∷ 10 ∷ 1 ∷ kind ∷ 0 ∷ 8 ∷ 3 ∷ [])

abbrev pub IsContext : List ℕ → Bool → Type 0
IsContext table is = (l : Lookup) → l.table.now ≡ table → is_context (record l { place = 0; positioning = false }) ≡ is

pub record WorkedTypes : Type 0 where
  pub context : IsContext (null_first 5) true
  pub chained_context : IsContext (null_first 6) true
  pub ligature : IsContext (null_first 4) false
  pub extended_context : IsContext (null_first_extension 6) true
  pub extended_ligature : IsContext (null_first_extension 4) false
  pub no_subtable : IsContext (words (5 ∷ 0 ∷ 0 ∷ [])) false

pub worked_types : WorkedTypes
worked_types = record {
  context = λ l t. rw t refl;
  chained_context = λ l t. rw t refl;
  ligature = λ l t. rw t refl;
  extended_context = λ l t. rw t refl;
  extended_ligature = λ l t. rw t refl;
  no_subtable = λ l t. rw t refl;
}
