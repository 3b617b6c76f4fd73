-- What positioning tries, counted by hand.
use Rattle.std.specs.Prelude.{◌≡◌, ℕ, List, [], ◌∷◌, refl}
use Rattle.std.specs.Int.{int_wrap}
use Rattle.std.specs.Int.Count.{ones}
use Rattle.shape_common.specs.Wrapping.{◌+ʷ◌, ◌-ʷ◌, neg_w}
use Rattle.shape_font.specs.Bytes.{i16_of}
use Rattle.shape_common.specs.declared.text_types.Direction.TheVariants.{LeftToRight}
use Rattle.shape_items.specs.Items.{Item}
use Rattle.layout_matching.specs.Tries.{Trace, all_tried}
use Rattle.layout_matching.specs.declared.lookup.Lookup.{Lookup}
use Rattle.layout_positions.specs.Tries.{nested_tries, position_tries}
use Rattle.layout_positions.specs.Walk.{none_seen}
use Rattle.layout_positions.specs.Worked.Lines.{base, line}
use Rattle.layout_positions.specs.Worked.Pairs.{single_one}
use Rattle.layout_positions.specs.Worked.Walk.{one_subtable, two_subtables, in_context, each_in_context, past_context, off, Over}

-- with so much left for lookups
abbrev tries_with : ℕ → List Lookup → List Item → ℕ
tries_with left lookups items = position_tries lookups (record (line LeftToRight items) { max_ops = left })

abbrev tries : Lookup → List Item → ℕ
tries l items = tries_with 999 (l ∷ []) items

-- at the first of two glyphs that the rule matches, with so many levels and so much left
abbrev named : ℕ → ℕ → Lookup → Trace
named levels left l = nested_tries levels l 0 left none_seen (line LeftToRight (base 2 0 ∷ base 3 1 ∷ []))

pub record WorkedTries : Type 0 where
  pub each_glyph : Over (one_subtable 1 single_one) 0 0 (λ l. tries l (base 2 0 ∷ base 7 1 ∷ base 3 2 ∷ []) ≡ 3)
  pub where_it_is_on : Over (one_subtable 1 single_one) 0 0 (λ l. tries l (base 2 0 ∷ off 3 1 ∷ base 3 2 ∷ []) ≡ 2)
  pub each_lookup : Over (one_subtable 1 single_one) 0 0 (λ l. tries_with 999 (l ∷ l ∷ []) (base 2 0 ∷ base 7 1 ∷ []) ≡ 4)
  -- the first subtable applies to glyph 2, none to glyph 7
  pub to_the_first_that_applies : Over two_subtables 0 0 (λ l. tries l (base 2 0 ∷ base 7 1 ∷ []) ≡ 3)
  -- 16 for each of two glyphs
  pub just_enough_for_a_walk : Over (one_subtable 1 single_one) 0 0 (λ l. tries_with 32 (l ∷ []) (base 2 0 ∷ base 3 1 ∷ []) ≡ 2)
  pub too_little_for_a_walk : Over (one_subtable 1 single_one) 0 0 (λ l. tries_with 31 (l ∷ []) (base 2 0 ∷ base 3 1 ∷ []) ≡ 0)
  -- a subtable, its rule, and the subtable that this names; then the subtable at glyph 7
  pub in_a_context : Over in_context 0 16 (λ l. tries l (base 2 0 ∷ base 3 1 ∷ base 7 2 ∷ []) ≡ 4)
  -- a rule is compared twice in vain
  pub out_of_context : Over in_context 0 16 (λ l. tries l (base 2 0 ∷ base 7 1 ∷ base 3 2 ∷ []) ≡ 5)
  -- two records, which name both glyphs of the rule
  pub two_are_named : Over each_in_context 0 16 (λ l. tries l (base 2 0 ∷ base 3 1 ∷ []) ≡ 4)
  pub none_there_is_named : Over past_context 0 16 (λ l. tries l (base 2 0 ∷ base 3 1 ∷ []) ≡ 2)
  pub subtables_at_a_place : Over in_context 0 16 (λ l. (named 2 999 l).subtables ≡ 1)
  pub others_at_a_place : Over in_context 0 16 (λ l. (named 2 999 l).others ≡ 2)
  pub too_deep : Over in_context 0 16 (λ l. (named 1 999 l).others ≡ 1)
  pub no_level : Over in_context 0 16 (λ l. all_tried (named 0 999 l) ≡ 0)
  -- 8 on the way to the second glyph, 32 and 16 for the lookup that is named, and 8 for its subtable there
  pub just_enough_for_a_name : Over in_context 0 16 (λ l. (named 2 64 l).others ≡ 2)
  pub too_little_for_a_name : Over in_context 0 16 (λ l. (named 2 63 l).others ≡ 1)
  pub nothing_for_a_name : Over in_context 0 16 (λ l. (named 2 0 l).others ≡ 1)
  pub past_the_end : Over in_context 0 16 (λ l. all_tried (nested_tries 2 l 2 999 none_seen (line LeftToRight (base 2 0 ∷ base 3 1 ∷ []))) ≡ 0)

pub worked_tries : WorkedTries
unfolding i16_of ◌+ʷ◌ ◌-ʷ◌ neg_w int_wrap ones
worked_tries = record {
  each_glyph = λ l. refl;
  where_it_is_on = λ l. refl;
  each_lookup = λ l. refl;
  to_the_first_that_applies = λ l. refl;
  just_enough_for_a_walk = λ l. refl;
  too_little_for_a_walk = λ l. refl;
  in_a_context = λ l. refl;
  out_of_context = λ l. refl;
  two_are_named = λ l. refl;
  none_there_is_named = λ l. refl;
  subtables_at_a_place = λ l. refl;
  others_at_a_place = λ l. refl;
  too_deep = λ l. refl;
  no_level = λ l. refl;
  just_enough_for_a_name = λ l. refl;
  too_little_for_a_name = λ l. refl;
  nothing_for_a_name = λ l. refl;
  past_the_end = λ l. refl;
}
