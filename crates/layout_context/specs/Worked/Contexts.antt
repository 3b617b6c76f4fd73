-- Rules of context by their formats, flags of lookups, syllables and the components of ligatures, computed by hand.
use Rattle.std.specs.Prelude.{◌≡◌, ℕ, List, [], ◌∷◌, ◌++◌, map, true, refl}
use Rattle.std.specs.Int.RustNames.{bit_and}
use Rattle.shape_items.specs.Buffer.{Buffer}
use Rattle.shape_items.specs.Clusters.{merge}
use Rattle.shape_items.specs.Items.{Item, new_properties}
use Rattle.layout_matching.specs.declared.lookup.Lookup.{Lookup}
use Rattle.layout_substitution.specs.Replaced.{is_multiplied, as_ligature}
use Rattle.layout_context.specs.Worked.Lookups.{over_tables, words, three_for_one, ligatures, on, glyph, mark, glyphs, after}

-- a table with a header and two lookups; the first stands at place 16, and the second, which makes 30 31 32 of 5, so many bytes
-- after the list of lookups
abbrev pub with_second : ℕ → List ℕ → List ℕ
with_second second first = words (1 ∷ 0 ∷ 0 ∷ 0 ∷ 10 ∷ 2 ∷ 6 ∷ second ∷ []) ++ words first ++ three_for_one

-- format 1: glyph 5 has one rule, whose second glyph is 6
abbrev pub by_glyphs : List ℕ
by_glyphs = with_second 42 (5 ∷ 0 ∷ 1 ∷ 8 ∷ 1 ∷ 8 ∷ 1 ∷ 14 ∷ 1 ∷ 1 ∷ 5 ∷ 1 ∷ 4 ∷ 2 ∷ 1 ∷ 6 ∷ 0 ∷ 1 ∷ [])

-- format 2: 5 is of class 1, which has one rule, whose second glyph is of class 2, as 6 is
abbrev pub by_classes : List ℕ
by_classes = with_second 58 (5 ∷ 0 ∷ 1 ∷ 8 ∷ 2 ∷ 14 ∷ 20 ∷ 3 ∷ 0 ∷ 30 ∷ 0 ∷ 1 ∷ 1 ∷ 5 ∷ 1 ∷ 5 ∷ 2 ∷ 1 ∷ 2 ∷ 1 ∷ 4 ∷ 2 ∷ 1 ∷ 2 ∷ 0 ∷ 1 ∷ [])

-- chained, format 3: 5 after 9 and before 6
abbrev pub chained_lists : List ℕ
chained_lists = with_second 52 (6 ∷ 0 ∷ 1 ∷ 8 ∷ 3 ∷ 1 ∷ 20 ∷ 1 ∷ 26 ∷ 1 ∷ 32 ∷ 1 ∷ 0 ∷ 1 ∷ 1 ∷ 1 ∷ 9 ∷ 1 ∷ 1 ∷ 5 ∷ 1 ∷ 1 ∷ 6 ∷ [])

-- GDEF: mark 9 is in mark filtering set 0
abbrev pub one_set : List ℕ
one_set = words (1 ∷ 2 ∷ 0 ∷ 0 ∷ 0 ∷ 0 ∷ 14 ∷ 1 ∷ 1 ∷ 0 ∷ 8 ∷ 1 ∷ 1 ∷ 9 ∷ [])

-- a mark of a mark attachment class
abbrev pub classed_mark : ℕ → ℕ → ℕ → Item
classed_mark g class cluster = record (mark g cluster) {
  properties = record (mark g cluster).properties { mark_attachment_class = class };
}

abbrev pub in_syllable : ℕ → Item → Item
in_syllable s item = record item { properties = record new_properties { syllable = s } }

abbrev pub per_syllable : Lookup → Lookup
per_syllable l = record l { per_syllable = true }

abbrev pub flags_of : Buffer → List ℕ
flags_of b = map (λ (x : Item). bit_and x.mask 7) b.items

abbrev pub ids_of : Buffer → List ℕ
ids_of b = map (λ (x : Item). x.properties.ligature_id) b.items

abbrev pub components_of : Buffer → List ℕ
components_of b = map (λ (x : Item). x.properties.ligature_component) b.items

abbrev pub HoldsOf : List ℕ → List ℕ → (Lookup → Type 0) → Type 0
HoldsOf table gdef fact = (l : Lookup) → fact (over_tables table gdef l)

pub record WorkedRules : Type 0 where
  pub glyphs_match : HoldsOf by_glyphs [] (λ l. glyphs (after (on l 16 0) (glyph 5 0 ∷ glyph 6 1 ∷ [])) ≡ 30 ∷ 31 ∷ 32 ∷ 6 ∷ [])
  pub glyphs_differ : HoldsOf by_glyphs [] (λ l. glyphs (after (on l 16 0) (glyph 5 0 ∷ glyph 7 1 ∷ [])) ≡ 5 ∷ 7 ∷ [])

pub worked_rules : WorkedRules
unfolding merge is_multiplied
worked_rules = record {
  glyphs_match = λ l. refl;
  glyphs_differ = λ l. refl;
}

pub record WorkedClasses : Type 0 where
  pub classes_match : HoldsOf by_classes [] (λ l. glyphs (after (on l 16 0) (glyph 5 0 ∷ glyph 6 1 ∷ [])) ≡ 30 ∷ 31 ∷ 32 ∷ 6 ∷ [])
  pub classes_differ : HoldsOf by_classes [] (λ l. glyphs (after (on l 16 0) (glyph 5 0 ∷ glyph 5 1 ∷ [])) ≡ 5 ∷ 5 ∷ [])

pub worked_classes : WorkedClasses
unfolding merge is_multiplied
worked_classes = record {
  classes_match = λ l. refl;
  classes_differ = λ l. refl;
}

pub record WorkedChains : Type 0 where
  pub chain_matches : HoldsOf chained_lists []
      (λ l. glyphs (after (on l 16 0) (glyph 9 0 ∷ glyph 5 1 ∷ glyph 6 2 ∷ [])) ≡ 9 ∷ 30 ∷ 31 ∷ 32 ∷ 6 ∷ [])
  pub chain_is_unsafe : HoldsOf chained_lists []
      (λ l. flags_of (after (on l 16 0) (glyph 9 0 ∷ glyph 5 1 ∷ glyph 6 2 ∷ [])) ≡ 0 ∷ 3 ∷ 3 ∷ 3 ∷ 3 ∷ [])

pub worked_chains : WorkedChains
unfolding merge is_multiplied
worked_chains = record {
  chain_matches = λ l. refl;
  chain_is_unsafe = λ l. refl;
}

pub record WorkedChainsElsewhere : Type 0 where
  pub another_before : HoldsOf chained_lists []
      (λ l. glyphs (after (on l 16 0) (glyph 4 0 ∷ glyph 5 1 ∷ glyph 6 2 ∷ [])) ≡ 4 ∷ 5 ∷ 6 ∷ [])
  pub another_after : HoldsOf chained_lists []
      (λ l. glyphs (after (on l 16 0) (glyph 9 0 ∷ glyph 5 1 ∷ glyph 5 2 ∷ [])) ≡ 9 ∷ 5 ∷ 5 ∷ [])

pub worked_chains_elsewhere : WorkedChainsElsewhere
unfolding merge
worked_chains_elsewhere = record {
  another_before = λ l. refl;
  another_after = λ l. refl;
}

pub record WorkedMarkSets : Type 0 where
  pub mark_of_the_set : HoldsOf ligatures one_set (λ l. glyphs (after (on l 0 16) (glyph 5 0 ∷ mark 9 1 ∷ glyph 6 2 ∷ [])) ≡ 5 ∷ 9 ∷ 6 ∷ [])
  pub mark_out_of_the_set : HoldsOf ligatures one_set (λ l. glyphs
      (after (on l 0 16) (glyph 5 0 ∷ mark 10 1 ∷ glyph 6 2 ∷ [])) ≡ 51 ∷ 10 ∷ [])

pub worked_mark_sets : WorkedMarkSets
unfolding merge as_ligature
worked_mark_sets = record {
  mark_of_the_set = λ l. refl;
  mark_out_of_the_set = λ l. refl;
}

pub record WorkedMarkClasses : Type 0 where
  pub mark_of_the_class : HoldsOf ligatures []
      (λ l. glyphs (after (on l 0 256) (glyph 5 0 ∷ classed_mark 9 1 1 ∷ glyph 6 2 ∷ [])) ≡ 5 ∷ 9 ∷ 6 ∷ [])
  pub mark_of_another_class : HoldsOf ligatures []
      (λ l. glyphs (after (on l 0 256) (glyph 5 0 ∷ classed_mark 10 2 1 ∷ glyph 6 2 ∷ [])) ≡ 51 ∷ 10 ∷ [])
  pub mark_of_no_class : HoldsOf ligatures []
      (λ l. glyphs (after (on l 0 256) (glyph 5 0 ∷ mark 9 1 ∷ glyph 6 2 ∷ [])) ≡ 51 ∷ 9 ∷ [])

pub worked_mark_classes : WorkedMarkClasses
unfolding merge as_ligature
worked_mark_classes = record {
  mark_of_the_class = λ l. refl;
  mark_of_another_class = λ l. refl;
  mark_of_no_class = λ l. refl;
}

pub record WorkedSyllables : Type 0 where
  pub in_one_syllable : HoldsOf ligatures []
      (λ l. glyphs (after (per_syllable (on l 0 0)) (in_syllable 1 (glyph 5 0) ∷ in_syllable 1 (glyph 6 1) ∷ [])) ≡ 51 ∷ [])
  pub in_two_syllables : HoldsOf ligatures []
      (λ l. glyphs (after (per_syllable (on l 0 0)) (in_syllable 1 (glyph 5 0) ∷ in_syllable 2 (glyph 6 1) ∷ [])) ≡ 5 ∷ 6 ∷ [])

pub worked_syllables : WorkedSyllables
unfolding merge as_ligature
worked_syllables = record {
  in_one_syllable = λ l. refl;
  in_two_syllables = λ l. refl;
}

pub record WorkedComponents : Type 0 where
  pub mark_of_a_ligature : HoldsOf ligatures [] (λ l. ids_of (after (on l 0 8) (glyph 5 0 ∷ mark 9 1 ∷ glyph 6 2 ∷ [])) ≡ 1 ∷ 1 ∷ [])
  pub mark_on_the_first_component : HoldsOf ligatures []
      (λ l. components_of (after (on l 0 8) (glyph 5 0 ∷ mark 9 1 ∷ glyph 6 2 ∷ mark 9 3 ∷ [])) ≡ 0 ∷ 1 ∷ 0 ∷ [])

pub worked_components : WorkedComponents
unfolding merge as_ligature
worked_components = record {
  mark_of_a_ligature = λ l. refl;
  mark_on_the_first_component = λ l. refl;
}
