-- Chained context by classes over whole lists, lookahead from the end of the list, and flags that ignore classes of glyphs, computed
-- by hand.
use Rattle.std.specs.Prelude.{◌≡◌, ℕ, List, [], ◌∷◌, Option, Some, None, true, refl}
use Rattle.std.specs.Option.{option_map}
use Rattle.shape_items.specs.Clusters.{merge}
use Rattle.shape_items.specs.Items.{Item, new_properties}
use Rattle.layout_matching.specs.Found.{found_of}
use Rattle.layout_matching.specs.declared.found.Found.{Found}
use Rattle.layout_matching.specs.declared.lookup.Lookup.{Lookup}
use Rattle.layout_matching.specs.declared.spans.Span.{Span}
use Rattle.layout_substitution.specs.Replaced.{as_ligature}
use Rattle.layout_context.specs.Worked.Contexts.{HoldsOf, with_second, classed_mark}
use Rattle.layout_context.specs.Worked.Lookups.{lookup_words, ligatures, on, glyph, glyphs, after}

-- chained, format 2: 5 and 6 are covered. Before the text 8 is of class 1 and 9 of class 2; in it 5 is of class 1 and 6 of class 2;
-- after it 7 is of class 3. Class 1 has one rule: class 1 before it, class 3 after it; the second lookup is applied to its glyph
abbrev pub chained_classes : List ℕ
chained_classes = with_second 88 (6 ∷ 0 ∷ 1 ∷ 8 ∷ 2 ∷ 18 ∷ 26 ∷ 36 ∷ 46 ∷ 3 ∷ 0 ∷ 54 ∷ 0 ∷ 1 ∷ 2 ∷ 5 ∷ 6 ∷ 1 ∷ 8 ∷ 2 ∷ 1 ∷ 2
    ∷ 1 ∷ 5 ∷ 2 ∷ 1 ∷ 2 ∷ 1 ∷ 7 ∷ 1 ∷ 3 ∷ 1 ∷ 4 ∷ 1 ∷ 1 ∷ 1 ∷ 1 ∷ 3 ∷ 1 ∷ 0 ∷ 1 ∷ [])

-- three glyphs, each in a cluster of its own
abbrev pub three : ℕ → ℕ → ℕ → List Item
three a b c = glyph a 0 ∷ glyph b 1 ∷ glyph c 2 ∷ []

abbrev pub Makes : List ℕ → ℕ → List Item → List ℕ → Type 0
Makes table place items made = HoldsOf table [] (λ l. glyphs (after (on l place 0) items) ≡ made)

-- where a rule stands whose glyph is the second of the list
abbrev pub span_at_second : Lookup → List Item → Option Span
span_at_second l items = option_map (λ (f : Found). f.span) (found_of l items (record { at = 1; is_steady = true }))

pub record WorkedChainedClasses : Type 0 where
  pub all_match : HoldsOf chained_classes []
      (λ l. span_at_second (on l 16 0) (three 8 5 7) ≡ Some (record { start = 0; last = 1; end = 3 }))
  pub before_differs : HoldsOf chained_classes [] (λ l. span_at_second (on l 16 0) (three 9 5 7) ≡ None)
  -- 6 is of class 2, which has no rule
  pub input_differs : HoldsOf chained_classes [] (λ l. span_at_second (on l 16 0) (three 8 6 7) ≡ None)
  pub after_differs : HoldsOf chained_classes [] (λ l. span_at_second (on l 16 0) (three 8 5 6) ≡ None)

pub worked_chained_classes : WorkedChainedClasses
worked_chained_classes = record {
  all_match = λ l. refl;
  before_differs = λ l. refl;
  input_differs = λ l. refl;
  after_differs = λ l. refl;
}

-- 5 after 9 and before 7 becomes 60, from the end of the list
abbrev pub backwards_before : List ℕ
backwards_before = lookup_words 8 (1 ∷ 16 ∷ 1 ∷ 22 ∷ 1 ∷ 28 ∷ 1 ∷ 60 ∷ 1 ∷ 1 ∷ 5 ∷ 1 ∷ 1 ∷ 9 ∷ 1 ∷ 1 ∷ 7 ∷ [])

pub record WorkedBackwards : Type 0 where
  pub both_match : Makes backwards_before 0 (three 9 5 7) (9 ∷ 60 ∷ 7 ∷ [])
  pub another_after : Makes backwards_before 0 (three 9 5 8) (9 ∷ 5 ∷ 8 ∷ [])
  pub another_before : Makes backwards_before 0 (three 4 5 7) (4 ∷ 5 ∷ 7 ∷ [])

pub worked_backwards : WorkedBackwards
unfolding merge
worked_backwards = record {
  both_match = λ l. refl;
  another_after = λ l. refl;
  another_before = λ l. refl;
}

-- a base and a ligature by their classes of GDEF
abbrev pub classed : ℕ → ℕ → ℕ → Item
classed class g cluster = record (glyph g cluster) { properties = record new_properties { glyph_class = record { 0 = class } } }

abbrev pub base : ℕ → ℕ → Item
base = classed 2

abbrev pub ligature : ℕ → ℕ → Item
ligature = classed 4

-- by a lookup that makes 51 of 5 6, with these flags and one item between the two
abbrev pub Over : ℕ → Item → List ℕ → Type 0
Over flags between made = HoldsOf ligatures [] (λ l. glyphs (after (on l 0 flags) (glyph 5 0 ∷ between ∷ glyph 6 2 ∷ [])) ≡ made)

pub record WorkedFlags : Type 0 where
  pub base_ignored : Over 2 (base 9 1) (51 ∷ 9 ∷ [])
  pub base_of_another_flag : Over 12 (base 9 1) (5 ∷ 9 ∷ 6 ∷ [])
  pub ligature_ignored : Over 4 (ligature 9 1) (51 ∷ 9 ∷ [])
  pub ligature_of_another_flag : Over 10 (ligature 9 1) (5 ∷ 9 ∷ 6 ∷ [])
  -- from right to left is for positioning
  pub right_to_left : HoldsOf ligatures [] (λ l. glyphs (after (on l 0 1) (glyph 5 0 ∷ glyph 6 1 ∷ [])) ≡ 51 ∷ [])
  -- ligatures, and marks of another class than 16
  pub ligature_beside_a_class : Over 0x1004 (ligature 9 1) (51 ∷ 9 ∷ [])
  pub mark_of_class_16 : Over 0x1004 (classed_mark 9 16 1) (5 ∷ 9 ∷ 6 ∷ [])
  pub mark_of_class_1 : Over 0x1004 (classed_mark 10 1 1) (51 ∷ 10 ∷ [])
  pub base_beside_a_class : Over 0x1004 (base 9 1) (5 ∷ 9 ∷ 6 ∷ [])

pub worked_flags : WorkedFlags
unfolding merge as_ligature
worked_flags = record {
  base_ignored = λ l. refl;
  base_of_another_flag = λ l. refl;
  ligature_ignored = λ l. refl;
  ligature_of_another_flag = λ l. refl;
  right_to_left = λ l. refl;
  ligature_beside_a_class = λ l. refl;
  mark_of_class_16 = λ l. refl;
  mark_of_class_1 = λ l. refl;
  base_beside_a_class = λ l. refl;
}
