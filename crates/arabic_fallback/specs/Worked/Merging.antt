-- What a ligature is charged for the items beside its components, and for those that follow it: lam 1 and alef 2 make 9, and each search
-- for that costs 6 for each glyph that is looked at.
use Rattle.std.specs.Prelude.{ℕ, List, [], ◌∷◌, map, refl}
use Rattle.shape_common.specs.Positions.{zero_position}
use Rattle.shape_common.specs.declared.text_types.BufferClusterLevel.TheVariants.{Characters}
use Rattle.shape_items.specs.Buffer.{new_buffer}
use Rattle.shape_items.specs.Clusters.{merge}
use Rattle.shape_items.specs.Items.{Item, new_properties}
use Rattle.arabic_fallback.specs.Ligating.{ligated}
use Rattle.arabic_fallback.specs.Replaced.{as_ligature}
use Rattle.arabic_fallback.specs.Worked.Charges.{Leaves, made}
use Rattle.arabic_fallback.specs.Worked.Forms.{rule}
use Rattle.arabic_fallback.specs.Worked.Ligatures.{glyph, lam_alef, lellah, mark, on_component}

-- a lam in the cluster of two glyphs before it, which goes over into that of the alef
abbrev pub behind_two : List Item → List Item
behind_two items = glyph 3 5 ∷ glyph 3 5 ∷ glyph 1 5 ∷ glyph 2 4 ∷ items

-- three letters that make one ligature, of which two stand in the cluster of the glyph before them
abbrev pub behind_one : List Item
behind_one = glyph 2 5 ∷ glyph 1 5 ∷ glyph 3 5 ∷ glyph 4 4 ∷ []

-- an alef that was a ligature
abbrev pub ligated_alef : ℕ → Item
ligated_alef cluster = record (glyph 2 cluster) { properties = record new_properties { ligature_id = 3 } }

-- marks on it, and a letter
abbrev pub two_marks : List Item
two_marks = on_component 5 1 ∷ on_component 6 1 ∷ glyph 4 9 ∷ []

pub record WorkedMergings : Type 0 where
  -- four for each are taken from what lookups may ask for
  pub charged : Leaves (made 30 (behind_two [])) (3 ∷ 3 ∷ 9 ∷ []) 10
  pub behind_it : Leaves (made 30 (glyph 1 1 ∷ glyph 2 2 ∷ glyph 3 2 ∷ glyph 3 2 ∷ glyph 3 2 ∷ [])) (9 ∷ 3 ∷ 3 ∷ 3 ∷ []) 6
  pub in_the_least : Leaves (made 30 (glyph 3 5 ∷ glyph 3 5 ∷ glyph 1 5 ∷ glyph 2 6 ∷ [])) (3 ∷ 3 ∷ 9 ∷ []) 18
  pub free : Leaves (ligated rule lam_alef (record new_buffer {
    items = behind_two [];
    positions = map (λ i. zero_position) (behind_two []);
    max_ops = 30;
    cluster_level = Characters;
  })) (3 ∷ 3 ∷ 9 ∷ []) 18
  -- of three components the last one's cluster is the least
  pub of_three : Leaves (ligated rule lellah (record new_buffer {
    items = behind_one;
    positions = map (λ i. zero_position) behind_one;
    max_ops = 30;
  })) (2 ∷ 10 ∷ []) 14
  -- the ligature is made whatever is left, and none after it once nothing is
  pub just_enough : Leaves (made 20 (behind_two [])) (3 ∷ 3 ∷ 9 ∷ []) 0
  pub too_little : Leaves (made 19 (behind_two [])) (3 ∷ 3 ∷ 9 ∷ []) 0
  pub both_made : Leaves (made 32 (behind_two (glyph 1 3 ∷ glyph 2 2 ∷ []))) (3 ∷ 3 ∷ 9 ∷ 9 ∷ []) 0
  pub first_made : Leaves (made 31 (behind_two (glyph 1 3 ∷ glyph 2 2 ∷ []))) (3 ∷ 3 ∷ 9 ∷ 1 ∷ 2 ∷ []) 0
  -- clusters that fall: all before the second one are merged again, the components that are to go among them
  pub again : Leaves (made 42 (glyph 3 5 ∷ glyph 1 5 ∷ glyph 2 4 ∷ glyph 1 4 ∷ glyph 2 3 ∷ [])) (3 ∷ 9 ∷ 9 ∷ []) 2
  -- four for each mark that follows
  pub two_follow : Leaves (made 40 (glyph 1 0 ∷ ligated_alef 0 ∷ two_marks)) (9 ∷ 5 ∷ 6 ∷ 4 ∷ []) 8
  pub just_enough_for_them : Leaves (made 32 (glyph 1 0 ∷ ligated_alef 0 ∷ two_marks)) (9 ∷ 5 ∷ 6 ∷ 4 ∷ []) 0
  pub too_little_for_them : Leaves (made 31 (glyph 1 0 ∷ ligated_alef 0 ∷ two_marks)) (9 ∷ 5 ∷ 6 ∷ 4 ∷ []) 0
  pub of_another : Leaves (made 40 (glyph 1 0 ∷ ligated_alef 0 ∷ mark 5 0 ∷ glyph 4 9 ∷ [])) (9 ∷ 5 ∷ 4 ∷ []) 22
  pub on_no_ligature : Leaves (made 40 (glyph 1 0 ∷ glyph 2 0 ∷ two_marks)) (9 ∷ 5 ∷ 6 ∷ 4 ∷ []) 16
  pub both_charged : Leaves (made 40 (glyph 3 5 ∷ glyph 1 5 ∷ ligated_alef 4 ∷ two_marks)) (3 ∷ 9 ∷ 5 ∷ 6 ∷ 4 ∷ []) 4

pub worked_mergings : WorkedMergings
unfolding merge as_ligature
worked_mergings = record {
  charged = (refl, refl);
  behind_it = (refl, refl);
  in_the_least = (refl, refl);
  free = (refl, refl);
  of_three = (refl, refl);
  just_enough = (refl, refl);
  too_little = (refl, refl);
  both_made = (refl, refl);
  first_made = (refl, refl);
  again = (refl, refl);
  two_follow = (refl, refl);
  just_enough_for_them = (refl, refl);
  too_little_for_them = (refl, refl);
  of_another = (refl, refl);
  on_no_ligature = (refl, refl);
  both_charged = (refl, refl);
}
