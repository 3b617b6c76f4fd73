-- What glances say of rules, computed by hand on tables of 16-bit words.
use Rattle.std.specs.Prelude.{◌≡◌, ℕ, Bool, List, [], ◌∷◌, true, false, refl}
use Rattle.shape_font.specs.Worked.Glyphs.{words}
use Rattle.shape_items.specs.Items.{Item, new_item, new_properties}
use Rattle.layout_tables.specs.declared.lookups.LookupSubtable.{LookupSubtable}
use Rattle.layout_matching.specs.Glance.{value_of, glance_of, any_glyph, glance_after, glance_before, glances_of, glances_in, plain_refused}
use Rattle.layout_matching.specs.Glance.{chain_refused, is_refused}
use Rattle.layout_matching.specs.Rules.{row}
use Rattle.layout_matching.specs.Sifted.{is_out}
use Rattle.layout_matching.specs.declared.glance.Glance.{Glance}
use Rattle.layout_matching.specs.declared.glance.Glance.TheVariants.{Open, Closed, Only}
use Rattle.layout_matching.specs.declared.glance.Glances.{Glances}
use Rattle.layout_matching.specs.declared.lookup.Lookup.{Lookup}
use Rattle.layout_matching.specs.declared.rules.RowTests.{RowTests}
use Rattle.layout_matching.specs.declared.rules.Test.{Test}
use Rattle.layout_matching.specs.declared.rules.Test.TheVariants.{Glyph, Class, Coverage, Any}
use Rattle.layout_matching.specs.declared.seeking.Seek.{Seek}

-- a lookup of `GSUB` that ignores marks, and is on for bit 1 of a mask
abbrev pub on : Lookup → Lookup
on l = record l { flags = 8; mask = 1; positioning = false; auto_zwnj = false; auto_zwj = true; per_syllable = false }

abbrev pub glyph : ℕ → Item
glyph g = record (new_item 0 0) { glyph_id = g; mask = 1 }

-- where the lookup is off
abbrev pub masked : ℕ → Item
masked g = record (glyph g) { mask = 2 }

abbrev pub a_mark : Item
a_mark = record (glyph 9) { properties = record new_properties { glyph_class = record { 0 = 8 } } }

abbrev pub a_zwj : Item
a_zwj = record (glyph 8) { properties = record new_properties { ignorable = true; zwj = true } }

abbrev pub by_glyph : RowTests
by_glyph = record { test = Glyph; before = 0; input = 0; after = 0 }

-- glyph 6 is of class 3 by the ClassDef at 0, glyph 4 of class 2 by that at 8
abbrev pub class_lists : List ℕ
class_lists = words (1 ∷ 6 ∷ 1 ∷ 3 ∷ 1 ∷ 4 ∷ 1 ∷ 2 ∷ [])

abbrev pub by_class : RowTests
by_class = record { test = Class; before = 8; input = 0; after = 8 }

abbrev pub Sees : List Item → ℕ → Bool → RowTests → Glances → Type 0
Sees items at is_chain rows glances = (l : Lookup) → l.table.now ≡ class_lists
    → glances_of (on l) items (record { at = at; is_steady = true }) is_chain rows ≡ glances

abbrev pub second : Glance → Glances
second input = record { before = Open; input = input; after = Open }

abbrev pub around : Glance → Glance → Glance → Glances
around before input after = record { before = before; input = input; after = after }

-- one glyph before glyphs 5, and one behind
abbrev pub one_of_each : List ℕ
one_of_each = words (1 ∷ 4 ∷ 1 ∷ 1 ∷ 6 ∷ 0 ∷ [])

-- two glyphs, and one behind
abbrev pub two_and_one : List ℕ
two_and_one = words (0 ∷ 2 ∷ 9 ∷ 1 ∷ 6 ∷ 0 ∷ [])

-- a second glyph is looked for, which a value at 20 names
abbrev pub second_of : Test → Seek
second_of test = record { row = row test 0 2 20; is_input = true; syllable = 0 }

-- a subtable at 0, of context or of chained context, whose format is 1
abbrev pub of_kind : ℕ → LookupSubtable
of_kind kind = record { kind = kind; start = 0 }

-- a set at 0: a NULL offset, and ligatures with glyph 5 and with glyph 6
abbrev pub three_ligatures : List ℕ
three_ligatures = words (3 ∷ 0 ∷ 8 ∷ 14 ∷ 9 ∷ 2 ∷ 5 ∷ 9 ∷ 2 ∷ 6 ∷ [])

pub record WorkedGlance : Type 0 where
  pub value_of_a_glyph : value_of class_lists 0 6 Glyph ≡ Only 6
  pub value_of_its_class : value_of class_lists 0 6 Class ≡ Only 3
  pub value_of_a_list : value_of class_lists 0 6 Coverage ≡ Open
  pub value_of_any : value_of class_lists 0 6 Any ≡ Open
  pub any : any_glyph (second_of Glyph) ≡ record { row = row Any 0 1 0; is_input = true; syllable = 0 }
  pub one_glyph : (l : Lookup) → glance_of (on l) (second_of Glyph) (glyph 6) ≡ Only 6
  pub its_class : (l : Lookup) → l.table.now ≡ class_lists → glance_of (on l) (second_of Class) (glyph 6) ≡ Only 3
  pub one_joiner : (l : Lookup) → glance_of (on l) (second_of Glyph) a_zwj ≡ Open
  pub after : (l : Lookup) → glance_after (on l) (second_of Glyph) (glyph 5 ∷ a_mark ∷ glyph 7 ∷ []) 0 ≡ Only 7
  pub nothing_after : (l : Lookup) → glance_after (on l) (second_of Glyph) (glyph 5 ∷ glyph 6 ∷ []) 1 ≡ Closed
  pub before : (l : Lookup) → glance_before (on l) (second_of Glyph) (glyph 5 ∷ a_mark ∷ glyph 7 ∷ []) 2 ≡ Only 5
  pub nothing_before : (l : Lookup) → glance_before (on l) (second_of Glyph) (glyph 5 ∷ glyph 6 ∷ []) 0 ≡ Closed
  pub in_context : (l : Lookup) → l.table.now ≡ class_lists
      → glances_in (on l) (glyph 4 ∷ glyph 5 ∷ glyph 6 ∷ []) (record { at = 1; is_steady = true }) (of_kind 5) ≡ second (Only 6)
  pub in_chained_context : (l : Lookup) → l.table.now ≡ class_lists
      → glances_in (on l) (glyph 4 ∷ glyph 5 ∷ glyph 6 ∷ []) (record { at = 1; is_steady = true }) (of_kind 6)
      ≡ around (Only 4) (Only 6) (Only 6)
  pub second_glyph : Sees (glyph 5 ∷ glyph 6 ∷ glyph 7 ∷ []) 0 false by_glyph (second (Only 6))
  pub over_a_mark : Sees (glyph 5 ∷ a_mark ∷ glyph 7 ∷ []) 0 false by_glyph (second (Only 7))
  pub no_glyph : Sees (glyph 5 ∷ a_mark ∷ []) 0 false by_glyph (second Closed)
  pub where_it_is_off : Sees (glyph 5 ∷ masked 6 ∷ glyph 7 ∷ []) 0 false by_glyph (second Closed)
  -- a joiner may be passed over, and may be what is looked for
  pub joiner : Sees (glyph 5 ∷ a_zwj ∷ glyph 7 ∷ []) 0 false by_glyph (second Open)
  pub second_class : Sees (glyph 5 ∷ glyph 6 ∷ []) 0 false by_class (second (Only 3))
  -- around a match the lookup may be off
  pub on_both_sides : Sees (masked 4 ∷ glyph 5 ∷ glyph 6 ∷ []) 1 true by_glyph (around (Only 4) (Only 6) (Only 6))
  pub classes_of_three : Sees (glyph 4 ∷ glyph 5 ∷ glyph 6 ∷ []) 1 true by_class (around (Only 2) (Only 3) (Only 0))
  pub alone : Sees (glyph 5 ∷ []) 0 true by_glyph (around Closed Closed Closed)
  pub another_second : plain_refused (words (2 ∷ 0 ∷ 6 ∷ [])) (second (Only 7)) 0 ≡ true
  pub the_second : plain_refused (words (2 ∷ 0 ∷ 6 ∷ [])) (second (Only 6)) 0 ≡ false
  pub no_second : plain_refused (words (2 ∷ 0 ∷ 6 ∷ [])) (second Closed) 0 ≡ true
  pub any_second : plain_refused (words (2 ∷ 0 ∷ 6 ∷ [])) (second Open) 0 ≡ false
  pub of_one_glyph : plain_refused (words (1 ∷ 0 ∷ 6 ∷ [])) (second Closed) 0 ≡ false
  pub both_sides : chain_refused one_of_each (around (Only 4) Closed (Only 6)) 0 ≡ false
  pub another_before : chain_refused one_of_each (around (Only 3) Closed (Only 6)) 0 ≡ true
  pub another_behind : chain_refused one_of_each (around (Only 4) Closed (Only 7)) 0 ≡ true
  pub two_glyphs : chain_refused two_and_one (around Closed (Only 9) Closed) 0 ≡ false
  pub another_of_two : chain_refused two_and_one (around Closed (Only 8) Open) 0 ≡ true
  -- one glyph before, as a chained rule; one glyph alone, as a rule that isn't
  pub as_chained : is_refused one_of_each (around (Only 3) Closed Open) true 0 ≡ true
  pub as_plain : is_refused one_of_each (around (Only 3) Closed Open) false 0 ≡ false
  -- ligatures of a set, before glyph 6
  pub null_ligature : is_out three_ligatures (Only 6) 0 0 ≡ true
  pub another_ligature : is_out three_ligatures (Only 6) 0 1 ≡ true
  pub its_ligature : is_out three_ligatures (Only 6) 0 2 ≡ false

pub worked_glance : WorkedGlance
worked_glance = record {
  value_of_a_glyph = refl;
  value_of_its_class = refl;
  value_of_a_list = refl;
  value_of_any = refl;
  any = refl;
  one_glyph = λ l. refl;
  its_class = λ l t. rw t refl;
  one_joiner = λ l. refl;
  after = λ l. refl;
  nothing_after = λ l. refl;
  before = λ l. refl;
  nothing_before = λ l. refl;
  in_context = λ l t. rw t refl;
  in_chained_context = λ l t. rw t refl;
  second_glyph = λ l t. refl;
  over_a_mark = λ l t. refl;
  no_glyph = λ l t. refl;
  where_it_is_off = λ l t. refl;
  joiner = λ l t. refl;
  second_class = λ l t. rw t refl;
  on_both_sides = λ l t. refl;
  classes_of_three = λ l t. rw t refl;
  alone = λ l t. refl;
  another_second = refl;
  the_second = refl;
  no_second = refl;
  any_second = refl;
  of_one_glyph = refl;
  both_sides = refl;
  another_before = refl;
  another_behind = refl;
  two_glyphs = refl;
  another_of_two = refl;
  as_chained = refl;
  as_plain = refl;
  null_ligature = refl;
  another_ligature = refl;
  its_ligature = refl;
}
