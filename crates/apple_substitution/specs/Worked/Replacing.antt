-- Glyphs that subtables replace, computed by hand on tables of 16-bit words.
use Rattle.std.specs.Prelude.{◌≡◌, ℕ, List, [], ◌∷◌, Some, None, refl}
use Rattle.shape_buffer.specs.Walks.{items_mapped}
use Rattle.shape_font.specs.Worked.Glyphs.{words}
use Rattle.apple_substitution.specs.Glyphs.{glyph_by, replaced, with_class}
use Rattle.apple_substitution.specs.Noncontextual.{all_substituted, all_substituted_by, substituted_by}
use Rattle.apple_substitution.specs.Worked.Driving.{glyph, glyphs_of, text}
use Rattle.apple_substitution.specs.declared.noncontextual.Noncontextual.{Noncontextual}

-- a lookup table that has 50 in place of 5, and 60 in place of 6
abbrev pub five_and_six : List ℕ
five_and_six = words (8 ∷ 5 ∷ 2 ∷ 50 ∷ 60 ∷ [])

-- it stands after two bytes, and features have it on up to cluster 3
abbrev Substitutes : ℕ → List ℕ → ℕ → Type 0
Substitutes left glyphs rest = (n : Noncontextual) → n.tables.morx.now ≡ 0 ∷ 0 ∷ five_and_six → n.tables.gdef.now ≡ []
    → n.ranges.list.now ≡ record { last = 3; flags = 1 } ∷ []
    → let b = all_substituted (record n { start = 2; ranges = record n.ranges { wanted = 1 } })
    (text (glyph 5 0 ∷ glyph 6 3 ∷ glyph 5 4 ∷ glyph 7 2 ∷ []) left) in
    (glyphs_of b ≡ glyphs) × (b.max_ops ≡ rest)

pub record WorkedReplacing : Type 0 where
  pub in_the_table : glyph_by five_and_six 0 100 6 ≡ Some 60
  pub not_in_the_table : glyph_by five_and_six 0 100 7 ≡ None
  -- a table of format 10 has no glyph
  pub format_10 : glyph_by (words (10 ∷ 2 ∷ 5 ∷ 1 ∷ 50 ∷ [])) 0 100 5 ≡ None
  -- a mark of class 2, and a font without classes of glyphs
  pub class_of_a_mark : (with_class 520 (glyph 5 0)).properties.glyph_class.0 ≡ 8
  pub attachment_class : (with_class 520 (glyph 5 0)).properties.mark_attachment_class ≡ 2
  pub no_classes : (replaced [] 9 (glyph 5 0)).properties.glyph_class.0 ≡ 0
  -- four glyphs, each for a step and for one range
  pub each : Substitutes 70 (50 ∷ 60 ∷ 5 ∷ 7 ∷ []) 2
  pub too_little : Substitutes 67 (5 ∷ 6 ∷ 5 ∷ 7 ∷ []) 0

pub worked_replacing : WorkedReplacing
unfolding items_mapped substituted_by all_substituted_by
worked_replacing = record {
  in_the_table = refl;
  not_in_the_table = refl;
  format_10 = refl;
  class_of_a_mark = refl;
  attachment_class = refl;
  no_classes = refl;
  each = λ n m g l. rw (m, g, l) (refl, refl);
  too_little = λ n m g l. rw (m, g, l) (refl, refl);
}
