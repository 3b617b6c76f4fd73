-- What a stage of substitution tries, counted by hand.
use Rattle.std.specs.Prelude.{◌≡◌, ℕ, List, [], ◌∷◌, refl}
use Rattle.shape_items.specs.Clusters.{merge}
use Rattle.shape_items.specs.Items.{Item}
use Rattle.layout_matching.specs.Tries.{Trace, all_tried}
use Rattle.layout_matching.specs.declared.lookup.Lookup.{Lookup}
use Rattle.layout_substitution.specs.Replaced.{is_multiplied, as_ligature}
use Rattle.layout_context.specs.Stages.{most_levels}
use Rattle.layout_context.specs.Tries.{nested_tries, lookups_tries}
use Rattle.layout_context.specs.Worked.Lookups.{single_1, single_2, three_for_one, ligatures, context, backwards, on, glyph, off, list, Holds}

-- with so much left for lookups
abbrev tries_with : ℕ → List Lookup → List Item → ℕ
tries_with left lookups items = lookups_tries 3 lookups (record {
  buffer = list items;
  spot = record { at = 0; random = 1; left = left; whole = 0 };
})

abbrev tries : Lookup → List Item → ℕ
tries l items = tries_with 999 (l ∷ []) items

-- at the first of two glyphs that the rule matches, with so many levels and so much left
abbrev named : ℕ → ℕ → Lookup → Trace
named levels left l =
    nested_tries levels l (record { at = 0; random = 1; left = left; whole = 2 }) (list (glyph 5 0 ∷ glyph 6 1 ∷ []))

pub record WorkedTries : Type 0 where
  -- a lookup over the text and 64 levels below it
  pub levels : most_levels ≡ 65
  pub each_glyph : Holds single_1 (λ l. tries (on l 0 0) (glyph 5 0 ∷ glyph 6 1 ∷ glyph 5 2 ∷ []) ≡ 3)
  pub where_it_is_on : Holds single_2 (λ l. tries (on l 0 0) (glyph 6 0 ∷ off (glyph 5 1) ∷ []) ≡ 1)
  pub each_lookup : Holds single_1 (λ l. tries_with 999 (on l 0 0 ∷ on l 0 0 ∷ []) (glyph 5 0 ∷ glyph 6 1 ∷ []) ≡ 4)
  -- what is made isn't gone over
  pub after_what_it_made : Holds three_for_one (λ l. tries (on l 0 0) (glyph 4 0 ∷ glyph 5 1 ∷ glyph 4 2 ∷ []) ≡ 3)
  -- a subtable, and the first of its two ligatures
  pub first_ligature : Holds ligatures (λ l. tries (on l 0 0) (glyph 5 0 ∷ glyph 6 1 ∷ glyph 7 2 ∷ []) ≡ 2)
  -- both ligatures, and the subtable at the last glyph
  pub second_ligature : Holds ligatures (λ l. tries (on l 0 0) (glyph 5 0 ∷ glyph 6 1 ∷ glyph 6 2 ∷ []) ≡ 4)
  pub no_ligature : Holds ligatures (λ l. tries (on l 0 0) (glyph 5 0 ∷ glyph 8 1 ∷ []) ≡ 4)
  -- 16 for each of two glyphs
  pub just_enough_for_a_walk : Holds single_1 (λ l. tries_with 32 (on l 0 0 ∷ []) (glyph 5 0 ∷ glyph 6 1 ∷ []) ≡ 2)
  pub too_little_for_a_walk : Holds single_1 (λ l. tries_with 31 (on l 0 0 ∷ []) (glyph 5 0 ∷ glyph 6 1 ∷ []) ≡ 0)
  -- the walk is paid: the subtable is asked at glyph 6, with which it doesn't begin, and nothing is left for glyph 5
  pub walk_alone : Holds context (λ l. tries_with 16 (on l 16 0 ∷ []) (glyph 5 0 ∷ glyph 6 1 ∷ []) ≡ 1)
  -- a subtable, its rule, and the subtable that this names; after what that made the subtable and its rule, in vain
  pub in_a_context : Holds context (λ l. tries (on l 16 0) (glyph 5 0 ∷ glyph 6 1 ∷ glyph 5 2 ∷ []) ≡ 5)
  pub subtables_at_a_place : Holds context (λ l. (named 2 999 (on l 16 0)).subtables ≡ 1)
  pub others_at_a_place : Holds context (λ l. (named 2 999 (on l 16 0)).others ≡ 2)
  pub too_deep : Holds context (λ l. (named 1 999 (on l 16 0)).others ≡ 1)
  pub no_level : Holds context (λ l. all_tried (named 0 999 (on l 16 0)) ≡ 0)
  pub nothing_for_a_name : Holds context (λ l. (named 2 0 (on l 16 0)).others ≡ 1)
  pub from_the_end : Holds backwards (λ l. tries (on l 0 0) (glyph 9 0 ∷ glyph 5 1 ∷ glyph 5 2 ∷ []) ≡ 3)
  pub backwards_where_it_is_on : Holds backwards (λ l. tries (on l 0 0) (glyph 9 0 ∷ off (glyph 5 1) ∷ glyph 5 2 ∷ []) ≡ 2)

pub worked_tries : WorkedTries
unfolding merge is_multiplied as_ligature
worked_tries = record {
  levels = refl;
  each_glyph = λ l. refl;
  where_it_is_on = λ l. refl;
  each_lookup = λ l. refl;
  after_what_it_made = λ l. refl;
  first_ligature = λ l. refl;
  second_ligature = λ l. refl;
  no_ligature = λ l. refl;
  just_enough_for_a_walk = λ l. refl;
  too_little_for_a_walk = λ l. refl;
  walk_alone = λ l. refl;
  in_a_context = λ l. refl;
  subtables_at_a_place = λ l. refl;
  others_at_a_place = λ l. refl;
  too_deep = λ l. refl;
  no_level = λ l. refl;
  nothing_for_a_name = λ l. refl;
  from_the_end = λ l. refl;
  backwards_where_it_is_on = λ l. refl;
}
