-- What a small engine substitutes, on lists worked out by hand.
use Rattle.std.specs.Prelude.{◌≡◌, ℕ, List, [], ◌∷◌, length, map, replicate, refl}
use Rattle.shape_items.specs.Buffer.{Buffer, new_buffer}
use Rattle.shape_items.specs.Clusters.{merge}
use Rattle.shape_items.specs.Items.{new_item}
use Rattle.shape_common.specs.Positions.{zero_position}
use Rattle.shape_common.specs.declared.text_types.BufferClusterLevel.TheVariants.{Characters}
use Rattle.shape_users.specs.Ligatures.{with_glyph, substituted}

-- glyphs with their clusters
abbrev pub glyphs_of : List (ℕ × ℕ) → Buffer
glyphs_of glyphs = record new_buffer {
  items = map (λ glyph. with_glyph glyph.0 (new_item 0x61 glyph.1)) glyphs;
  positions = replicate (length glyphs) zero_position;
}

abbrev pub shown_glyphs : Buffer → List (ℕ × ℕ)
shown_glyphs b = map (λ item. (item.glyph_id, item.cluster)) b.items

-- 11 stands for 1, and 23 for 2 and 3 side by side
pub record WorkedSubstitutions : Type 0 where
  pub single : shown_glyphs (substituted (glyphs_of ((1, 0) ∷ (2, 1) ∷ (1, 2) ∷ (11, 3) ∷ [])))
      ≡ (11, 0) ∷ (2, 1) ∷ (11, 2) ∷ (11, 3) ∷ []
  pub pair : substituted (glyphs_of ((2, 0) ∷ (3, 1) ∷ [])) ≡ glyphs_of ((23, 0) ∷ [])
  pub backward : substituted (glyphs_of ((2, 1) ∷ (3, 0) ∷ [])) ≡ glyphs_of ((23, 0) ∷ [])
  pub two_pairs : shown_glyphs (substituted (glyphs_of ((5, 0) ∷ (2, 1) ∷ (3, 2) ∷ (2, 3) ∷ (3, 4) ∷ (1, 5) ∷ [])))
      ≡ (5, 0) ∷ (23, 1) ∷ (23, 3) ∷ (11, 5) ∷ []
  -- the rest of a cluster goes with its glyph
  pub longer_cluster : shown_glyphs (substituted (glyphs_of ((2, 0) ∷ (3, 1) ∷ (7, 1) ∷ (8, 2) ∷ []))) ≡ (23, 0) ∷ (7, 0) ∷ (8, 2) ∷ []
  pub apart : shown_glyphs (substituted (glyphs_of ((2, 0) ∷ (4, 1) ∷ (3, 2) ∷ (2, 3) ∷ [])))
      ≡ (2, 0) ∷ (4, 1) ∷ (3, 2) ∷ (2, 3) ∷ []
  pub reversed : shown_glyphs (substituted (glyphs_of ((3, 0) ∷ (2, 1) ∷ []))) ≡ (3, 0) ∷ (2, 1) ∷ []
  pub by_character : shown_glyphs (substituted (record (glyphs_of ((2, 1) ∷ (3, 0) ∷ [])) { cluster_level = Characters })) ≡ (23, 1) ∷ []
  pub none : substituted (glyphs_of []) ≡ glyphs_of []

worked_substitutions : WorkedSubstitutions
unfolding merge
worked_substitutions = record {
  single = refl;
  pair = refl;
  backward = refl;
  two_pairs = refl;
  longer_cluster = refl;
  apart = refl;
  reversed = refl;
  by_character = refl;
  none = refl;
}

pub record WorkedLigatures : Type 0 where
  pub substitutions : WorkedSubstitutions

pub worked_ligatures : WorkedLigatures
worked_ligatures = record { substitutions = worked_substitutions }
