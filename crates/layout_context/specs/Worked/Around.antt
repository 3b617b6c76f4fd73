-- What may stand between the glyphs of a match and around it: joiners, masks, syllables, marks on components of ligatures; computed
-- by hand.
use Rattle.std.specs.Prelude.{◌≡◌, ℕ, List, [], ◌∷◌, true, false, refl}
use Rattle.shape_items.specs.Buffer.{Buffer}
use Rattle.shape_items.specs.Clusters.{merge}
use Rattle.shape_items.specs.Items.{Item, new_properties}
use Rattle.layout_matching.specs.declared.lookup.Lookup.{Lookup}
use Rattle.layout_substitution.specs.Replaced.{is_multiplied, as_ligature}
use Rattle.layout_context.specs.Covered.{subtable_covers}
use Rattle.layout_context.specs.Stages.{all_looked_up, stage_made, substituted}
use Rattle.layout_context.specs.Worked.Contexts.{HoldsOf, with_second, chained_lists, in_syllable, per_syllable}
use Rattle.layout_context.specs.Worked.Chains.{chained_glyphs}
use Rattle.layout_context.specs.Worked.Lookups.{lookup_words, ligatures, single_1, on, glyph, off, mark, zwnj, zwj, glyphs, after}

-- a default ignorable that is no joiner, and one that is hidden
abbrev pub ignorable : ℕ → Item
ignorable cluster = record (glyph 3 cluster) { properties = record new_properties { ignorable = true } }

abbrev pub hidden : ℕ → Item
hidden cluster = record (glyph 3 cluster) { properties = record new_properties { ignorable = true; hidden = true } }

abbrev pub stopped_by_zwnj : Lookup → Lookup
stopped_by_zwnj l = record l { auto_zwnj = false }

abbrev pub stopped_by_zwj : Lookup → Lookup
stopped_by_zwj l = record l { auto_zwj = false }

pub record WorkedJoiners : Type 0 where
  pub over_an_ignorable : HoldsOf ligatures [] (λ l. glyphs (after (on l 0 0) (glyph 5 0 ∷ ignorable 1 ∷ glyph 6 2 ∷ [])) ≡ 51 ∷ 3 ∷ [])
  pub stopped_by_a_hidden_one : HoldsOf ligatures []
      (λ l. glyphs (after (on l 0 0) (glyph 5 0 ∷ hidden 1 ∷ glyph 6 2 ∷ [])) ≡ 5 ∷ 3 ∷ 6 ∷ [])
  pub manual_zwj : HoldsOf ligatures []
      (λ l. glyphs (after (stopped_by_zwj (on l 0 0)) (glyph 5 0 ∷ zwj 1 ∷ glyph 6 2 ∷ [])) ≡ 5 ∷ 3 ∷ 6 ∷ [])
  -- around what is matched ZWNJ is passed over by default, and ZWJ always
  pub zwnj_before_what_follows : HoldsOf chained_lists []
      (λ l. glyphs (after (on l 16 0) (glyph 9 0 ∷ glyph 5 1 ∷ zwnj 2 ∷ glyph 6 3 ∷ [])) ≡ 9 ∷ 30 ∷ 31 ∷ 32 ∷ 3 ∷ 6 ∷ [])
  pub manual_zwnj : HoldsOf chained_lists []
      (λ l. glyphs (after (stopped_by_zwnj (on l 16 0)) (glyph 9 0 ∷ glyph 5 1 ∷ zwnj 2 ∷ glyph 6 3 ∷ [])) ≡ 9 ∷ 5 ∷ 3 ∷ 6 ∷ [])
  pub zwj_before_what_follows : HoldsOf chained_lists []
      (λ l. glyphs (after (stopped_by_zwj (on l 16 0)) (glyph 9 0 ∷ zwj 1 ∷ glyph 5 2 ∷ zwj 3 ∷ glyph 6 4 ∷ []))
      ≡ 9 ∷ 3 ∷ 30 ∷ 31 ∷ 32 ∷ 3 ∷ 6 ∷ [])

pub worked_joiners : WorkedJoiners
unfolding merge is_multiplied as_ligature
worked_joiners = record {
  over_an_ignorable = λ l. refl {a = 51 ∷ 3 ∷ []};
  stopped_by_a_hidden_one = λ l. refl;
  manual_zwj = λ l. refl;
  zwnj_before_what_follows = λ l. refl {a = 9 ∷ 30 ∷ 31 ∷ 32 ∷ 3 ∷ 6 ∷ []};
  manual_zwnj = λ l. refl;
  zwj_before_what_follows = λ l. refl {a = 9 ∷ 3 ∷ 30 ∷ 31 ∷ 32 ∷ 3 ∷ 6 ∷ []};
}

-- a glyph for which other features are on than the lookup's
abbrev pub otherwise_on : Item → Item
otherwise_on item = record item { mask = 8 }

pub record WorkedMasks : Type 0 where
  pub component_off : HoldsOf ligatures [] (λ l. glyphs (after (on l 0 0) (glyph 5 0 ∷ otherwise_on (glyph 6 1) ∷ [])) ≡ 5 ∷ 6 ∷ [])
  -- around what is matched any feature will do, but one must be on
  pub around_it : HoldsOf chained_lists []
      (λ l. glyphs (after (on l 16 0) (otherwise_on (glyph 9 0) ∷ glyph 5 1 ∷ otherwise_on (glyph 6 2) ∷ [])) ≡ 9 ∷ 30 ∷ 31 ∷ 32 ∷ 6 ∷ [])
  pub all_off_after_it : HoldsOf chained_lists []
      (λ l. glyphs (after (on l 16 0) (glyph 9 0 ∷ glyph 5 1 ∷ off (glyph 6 2) ∷ [])) ≡ 9 ∷ 5 ∷ 6 ∷ [])

pub worked_masks : WorkedMasks
unfolding merge is_multiplied as_ligature
worked_masks = record {
  component_off = λ l. refl;
  around_it = λ l. refl;
  all_off_after_it = λ l. refl;
}

pub record WorkedSyllablesAround : Type 0 where
  pub after_it : HoldsOf chained_lists [] (λ l. glyphs (after (per_syllable (on l 16 0))
      (in_syllable 1 (glyph 9 0) ∷ in_syllable 1 (glyph 5 1) ∷ in_syllable 2 (glyph 6 2) ∷ [])) ≡ 9 ∷ 5 ∷ 6 ∷ [])
  pub before_it : HoldsOf chained_lists [] (λ l. glyphs (after (per_syllable (on l 16 0))
      (in_syllable 1 (glyph 9 0) ∷ in_syllable 2 (glyph 5 1) ∷ in_syllable 2 (glyph 6 2) ∷ [])) ≡ 9 ∷ 5 ∷ 6 ∷ [])
  pub in_one : HoldsOf chained_lists [] (λ l. glyphs (after (per_syllable (on l 16 0))
      (in_syllable 2 (glyph 9 0) ∷ in_syllable 2 (glyph 5 1) ∷ in_syllable 2 (glyph 6 2) ∷ [])) ≡ 9 ∷ 30 ∷ 31 ∷ 32 ∷ 6 ∷ [])
  -- after two glyphs any syllable will do
  pub after_two : HoldsOf chained_glyphs [] (λ l. glyphs (after (per_syllable (on l 16 0)) (in_syllable 1 (glyph 9 0)
      ∷ in_syllable 1 (glyph 8 1) ∷ in_syllable 1 (glyph 5 2) ∷ in_syllable 1 (glyph 5 3) ∷ in_syllable 2 (glyph 7 4) ∷ []))
      ≡ 9 ∷ 8 ∷ 5 ∷ 30 ∷ 31 ∷ 32 ∷ 7 ∷ [])

pub worked_syllables_around : WorkedSyllablesAround
unfolding merge is_multiplied
worked_syllables_around = record {
  after_it = λ l. refl;
  before_it = λ l. refl;
  in_one = λ l. refl {a = 9 ∷ 30 ∷ 31 ∷ 32 ∷ 6 ∷ []};
  after_two = λ l. refl {a = 9 ∷ 8 ∷ 5 ∷ 30 ∷ 31 ∷ 32 ∷ 7 ∷ []};
}

-- a mark on a component of a ligature, and the ligature
abbrev pub on_component : ℕ → ℕ → Item → Item
on_component id component item = record item { properties = record item.properties { ligature_id = id; ligature_component = component } }

abbrev pub ligature_glyph : ℕ → Item
ligature_glyph id = record (glyph 20 0) { properties = record new_properties { glyph_class = record { 0 = 4 }; ligature_id = id } }

abbrev pub two_marks : ℕ → ℕ → List Item
two_marks first second = on_component 1 first (mark 5 1) ∷ on_component 1 second (mark 6 2) ∷ []

pub record WorkedComponentsMatched : Type 0 where
  pub on_one_component : HoldsOf ligatures [] (λ l. glyphs (after (on l 0 0) (ligature_glyph 1 ∷ two_marks 1 1)) ≡ 20 ∷ 51 ∷ [])
  pub on_two_components : HoldsOf ligatures [] (λ l. glyphs (after (on l 0 0) (ligature_glyph 1 ∷ two_marks 1 2)) ≡ 20 ∷ 5 ∷ 6 ∷ [])
  pub on_a_skipped_ligature : HoldsOf ligatures [] (λ l. glyphs (after (on l 0 4) (ligature_glyph 1 ∷ two_marks 1 2)) ≡ 20 ∷ 51 ∷ [])
  pub without_the_ligature : HoldsOf ligatures [] (λ l. glyphs (after (on l 0 4) (ligature_glyph 2 ∷ two_marks 1 2)) ≡ 20 ∷ 5 ∷ 6 ∷ [])
  pub on_another_ligature : HoldsOf ligatures []
      (λ l. glyphs (after (on l 0 0) (on_component 1 1 (mark 5 1) ∷ on_component 2 1 (mark 6 2) ∷ [])) ≡ 5 ∷ 6 ∷ [])
  -- a glyph on none, before a mark on a component, and before one on none
  pub on_a_component_alone : HoldsOf ligatures []
      (λ l. glyphs (after (on l 0 0) (glyph 5 0 ∷ on_component 2 1 (mark 6 1) ∷ [])) ≡ 5 ∷ 6 ∷ [])
  pub on_the_first_glyph : HoldsOf ligatures []
      (λ l. glyphs (after (on l 0 0) (on_component 2 0 (glyph 5 0) ∷ on_component 2 1 (mark 6 1) ∷ [])) ≡ 51 ∷ [])

pub worked_components_matched : WorkedComponentsMatched
unfolding merge as_ligature
worked_components_matched = record {
  on_one_component = λ l. refl;
  on_two_components = λ l. refl;
  on_a_skipped_ligature = λ l. refl;
  without_the_ligature = λ l. refl;
  on_another_ligature = λ l. refl;
  on_a_component_alone = λ l. refl;
  on_the_first_glyph = λ l. refl;
}

-- chained, format 2, by classes of three lists: 9 is of class 3 before, 5 and 6 of classes 1 and 2 in the match, 7 of class 4 after
abbrev pub classes_of_three_lists : List ℕ
classes_of_three_lists = with_second 94 (6 ∷ 0 ∷ 1 ∷ 8
    ∷ 2 ∷ 16 ∷ 22 ∷ 32 ∷ 48 ∷ 2 ∷ 0 ∷ 58
    ∷ 1 ∷ 1 ∷ 5
    ∷ 2 ∷ 1 ∷ 9 ∷ 9 ∷ 3
    ∷ 2 ∷ 2 ∷ 5 ∷ 5 ∷ 1 ∷ 6 ∷ 6 ∷ 2
    ∷ 2 ∷ 1 ∷ 7 ∷ 7 ∷ 4
    ∷ 1 ∷ 4 ∷ 1 ∷ 3 ∷ 2 ∷ 2 ∷ 1 ∷ 4 ∷ 1 ∷ 0 ∷ 1 ∷ [])

abbrev pub by_classes : ℕ → ℕ → ℕ → List ℕ → Type 0
by_classes before second follows made = HoldsOf classes_of_three_lists []
    (λ l. glyphs (after (on l 16 0) (glyph before 0 ∷ glyph 5 1 ∷ glyph second 2 ∷ glyph follows 3 ∷ [])) ≡ made)

pub record WorkedClassesOfThreeLists : Type 0 where
  pub all_match : by_classes 9 6 7 (9 ∷ 30 ∷ 31 ∷ 32 ∷ 6 ∷ 7 ∷ [])
  pub another_before : by_classes 6 6 7 (6 ∷ 5 ∷ 6 ∷ 7 ∷ [])
  pub another_second : by_classes 9 7 7 (9 ∷ 5 ∷ 7 ∷ 7 ∷ [])
  pub another_after : by_classes 9 6 9 (9 ∷ 5 ∷ 6 ∷ 9 ∷ [])

pub worked_classes_of_three_lists : WorkedClassesOfThreeLists
unfolding merge is_multiplied
worked_classes_of_three_lists = record {
  all_match = λ l. refl {a = 9 ∷ 30 ∷ 31 ∷ 32 ∷ 6 ∷ 7 ∷ []};
  another_before = λ l. refl;
  another_second = λ l. refl;
  another_after = λ l. refl;
}

-- from the end of the list, 5 before 9 becomes 60
abbrev pub backwards_before : List ℕ
backwards_before = lookup_words 8 (1 ∷ 14 ∷ 0 ∷ 1 ∷ 20 ∷ 1 ∷ 60 ∷ 1 ∷ 1 ∷ 5 ∷ 1 ∷ 1 ∷ 9 ∷ [])

-- single substitution by 65535 glyphs further
abbrev pub one_back : List ℕ
one_back = lookup_words 1 (1 ∷ 6 ∷ 65535 ∷ 1 ∷ 1 ∷ 5 ∷ [])

pub record WorkedBounds : Type 0 where
  pub backwards_matches : HoldsOf backwards_before [] (λ l. glyphs (after (on l 0 0) (glyph 5 0 ∷ glyph 9 1 ∷ [])) ≡ 60 ∷ 9 ∷ [])
  pub backwards_differs : HoldsOf backwards_before [] (λ l. glyphs (after (on l 0 0) (glyph 9 0 ∷ glyph 5 1 ∷ [])) ≡ 9 ∷ 5 ∷ [])
  pub distance_wraps : HoldsOf one_back [] (λ l. glyphs (after (on l 0 0) (glyph 5 0 ∷ [])) ≡ 4 ∷ [])
  -- a stage begins with what the stages before it have left, and leaves what it doesn't use
  pub begun : (ls : List Lookup) (b : Buffer) → let end = all_looked_up 65 ls (record {
    buffer = b;
    spot = record { at = 0; random = 1; left = b.max_ops; whole = 0 };
  }) in stage_made 65 ls b ≡ record end.buffer { max_ops = end.spot.left }
  -- a lookup of the plan and 64 levels below it
  pub levels : (ls : List Lookup) (b : Buffer) → substituted ls b ≡ stage_made 65 ls b

pub worked_bounds : WorkedBounds
unfolding merge substituted
worked_bounds = record {
  backwards_matches = λ l. refl;
  backwards_differs = λ l. refl;
  distance_wraps = λ l. refl;
  begun = λ ls b. refl;
  levels = λ ls b. refl;
}

pub record WorkedCovers : Type 0 where
  -- a subtable covers what its list has, a rule of format 3 what the list of its first glyph has
  pub covered : HoldsOf single_1 [] (λ l. subtable_covers (on l 0 0) (record { kind = 1; start = 8 }) 5 ≡ true)
  pub not_covered : HoldsOf single_1 [] (λ l. subtable_covers (on l 0 0) (record { kind = 1; start = 8 }) 6 ≡ false)
  pub first_of_a_rule : HoldsOf chained_lists [] (λ l. subtable_covers (on l 16 0) (record { kind = 6; start = 24 }) 5 ≡ true)
  pub before_a_rule : HoldsOf chained_lists [] (λ l. subtable_covers (on l 16 0) (record { kind = 6; start = 24 }) 9 ≡ false)

pub worked_covers : WorkedCovers
worked_covers = record {
  covered = λ l. refl;
  not_covered = λ l. refl;
  first_of_a_rule = λ l. refl;
  before_a_rule = λ l. refl;
}
