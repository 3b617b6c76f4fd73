-- Labels of items, and their places, by hand.
use Rattle.std.specs.Prelude.{◌≡◌, ℕ, Bool, true, false, List, [], ◌∷◌, refl}
use Rattle.layout_context.specs.Labels.{labelled, labelled_from, around, with_more, without_first}

pub record WorkedLabels : Type 0 where
  pub places : labelled (true ∷ false ∷ true ∷ true ∷ []) ≡ 0 ∷ 2 ∷ 3 ∷ []
  pub from_a_place : labelled_from 4 (false ∷ true ∷ []) ≡ 5 ∷ []
  pub no_label : labelled (false ∷ false ∷ []) ≡ []
  pub around_a_glyph : labelled (around (false ∷ []) (false ∷ true ∷ [])) ≡ 1 ∷ 3 ∷ []
  -- what came stands right behind the glyph
  pub two_more : with_more 2 (false ∷ true ∷ []) ≡ true ∷ true ∷ false ∷ true ∷ []
  pub places_of_two_more : labelled (around (false ∷ []) (with_more 2 (false ∷ true ∷ []))) ≡ 1 ∷ 2 ∷ 3 ∷ 5 ∷ []
  -- what went is the next one with a label; one without stays
  pub one_fewer : without_first 1 (false ∷ true ∷ true ∷ []) ≡ false ∷ true ∷ []
  pub places_of_one_fewer : labelled (around (false ∷ []) (without_first 1 (false ∷ true ∷ true ∷ []))) ≡ 1 ∷ 3 ∷ []
  pub none_fewer : without_first 0 (true ∷ []) ≡ true ∷ []
  pub all_went : without_first 2 (true ∷ true ∷ false ∷ []) ≡ false ∷ []

pub worked_labels : WorkedLabels
worked_labels = record {
  places = refl;
  from_a_place = refl;
  no_label = refl;
  around_a_glyph = refl;
  two_more = refl;
  places_of_two_more = refl;
  one_fewer = refl;
  places_of_one_fewer = refl;
  none_fewer = refl;
  all_went = refl;
}
