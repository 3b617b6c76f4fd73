-- The list that a ligature makes, by hand.
use Rattle.std.specs.Prelude.{◌≡◌, ℕ, List, [], ◌∷◌, false, map, refl}
use Rattle.shape_items.specs.Buffer.{Buffer, new_buffer}
use Rattle.shape_items.specs.Clusters.{merge}
use Rattle.shape_items.specs.Items.{Item}
use Rattle.layout_matching.specs.declared.lookup.Lookup.{Lookup}
use Rattle.layout_substitution.specs.LigatureList.{ligature_list}
use Rattle.layout_substitution.specs.Ligatures.{ligation_of}
use Rattle.layout_substitution.specs.Replaced.{as_ligature}
use Rattle.layout_substitution.specs.Worked.{of_two, glyph_in, of_ligature, six_with_marks}

-- what is read of the list that 5 and 6 make, from one place to another
abbrev Makes : List Item → ℕ → ℕ → (Item → ℕ) → List ℕ → Type 0
Makes items at last read values = (l : Lookup) → let b : Buffer = record new_buffer { items = items } in
    map read (ligature_list (of_two l) (ligation_of (of_two l) at b (record { ligature = 0; last = last; all_marks = false }))
    (record { ligature = 0; last = last; all_marks = false }) at b) ≡ values

-- a glyph before the ligature, one between its components, marks on the last one, and a glyph behind
abbrev over_nine : List Item
over_nine = glyph_in 4 3 ∷ glyph_in 5 3 ∷ glyph_in 9 3 ∷ six_with_marks

pub record WorkedLists : Type 0 where
  pub glyphs : Makes over_nine 1 3 (λ x. x.glyph_id) (4 ∷ 50 ∷ 9 ∷ 8 ∷ 8 ∷ 4 ∷ [])
  -- the one between is on the first component, the marks of the last one on the second
  pub components : Makes over_nine 1 3 (λ x. x.properties.ligature_component) (0 ∷ 0 ∷ 1 ∷ 2 ∷ 2 ∷ 0 ∷ [])
  pub ids : Makes over_nine 1 3 (λ x. x.properties.ligature_id) (0 ∷ 1 ∷ 1 ∷ 1 ∷ 1 ∷ 0 ∷ [])
  pub counted : Makes over_nine 1 3 (λ x. x.properties.number_of_components) (1 ∷ 2 ∷ 1 ∷ 1 ∷ 1 ∷ 1 ∷ [])
  -- marks of another ligature stay on it
  pub marks_of_another : Makes (glyph_in 5 3 ∷ glyph_in 6 2 ∷ of_ligature 1 (glyph_in 8 2) ∷ []) 0 1
      (λ x. x.properties.ligature_id) (1 ∷ 7 ∷ [])
  -- up to the first glyph that isn't one
  pub marks_in_a_row : Makes (glyph_in 5 3 ∷ of_ligature 0 (glyph_in 6 2) ∷ glyph_in 4 2 ∷ of_ligature 1 (glyph_in 8 2) ∷ []) 0 1
      (λ x. x.properties.ligature_id) (1 ∷ 0 ∷ 7 ∷ [])

pub worked_lists : WorkedLists
unfolding merge as_ligature
worked_lists = record {
  glyphs = λ l. refl;
  components = λ l. refl;
  ids = λ l. refl;
  counted = λ l. refl;
  marks_of_another = λ l. refl;
  marks_in_a_row = λ l. refl;
}
