-- Ligatures of glyphs: lam 1 and alef 2 make 9, lam 1, lam 3 and heh 4 make 10, shadda 7 and fatha 8 make 12.
use Rattle.std.specs.Prelude.{◌≡◌, ℕ, true, false, Some, None, List, [], ◌∷◌, map, refl}
use Rattle.shape_common.specs.Positions.{zero_position}
use Rattle.shape_common.specs.declared.text_types.BufferClusterLevel.TheVariants.{Characters}
use Rattle.shape_items.specs.Buffer.{new_buffer}
use Rattle.shape_items.specs.Clusters.{merge}
use Rattle.shape_items.specs.Items.{Item, new_item, new_properties}
use Rattle.arabic_fallback.specs.Ligating.{ligated}
use Rattle.arabic_fallback.specs.Replaced.{as_ligature}
use Rattle.arabic_fallback.specs.Worked.Forms.{rule}
use Rattle.arabic_fallback.specs.declared.ligatures.LigatureGlyphs.{LigatureGlyphs}
use Rattle.arabic_fallback.specs.declared.seeking.Rule.{Rule}

abbrev pub lam_alef : List LigatureGlyphs
lam_alef = record { components = record { first = 1; second = 2; third = None }; ligature = record { glyph = 9; class = None } } ∷ []

abbrev pub lellah : List LigatureGlyphs
lellah = record { components = record { first = 1; second = 3; third = Some 4 }; ligature = record { glyph = 10; class = None } } ∷ []

abbrev pub shadda_fatha : List LigatureGlyphs
shadda_fatha =
    record { components = record { first = 7; second = 8; third = None }; ligature = record { glyph = 12; class = None } } ∷ []

-- lam and alef over a face whose classes say that the ligature is a base
abbrev pub lam_alef_base : List LigatureGlyphs
lam_alef_base = record {
  components = record { first = 1; second = 2; third = None };
  ligature = record { glyph = 9; class = Some (record { class = record { 0 = 2 }; attachment = 0 }) };
} ∷ []

abbrev pub counts : List Item → List ℕ
counts items = map (λ (x : Item). x.properties.number_of_components) items

-- a lookup that sees marks
abbrev pub of_marks : Rule
of_marks = record rule { ignores_marks = false }

abbrev pub glyph : ℕ → ℕ → Item
glyph g cluster = record (new_item 0 cluster) { glyph_id = g; mask = 16 }

abbrev pub mark : ℕ → ℕ → Item
mark g cluster = record (glyph g cluster) { properties = record new_properties { glyph_class = record { 0 = 8 } } }

-- a mark on a component of ligature 3
abbrev pub on_component : ℕ → ℕ → Item
on_component g component =
    record (mark g 0) { properties = record (mark g 0).properties { ligature_id = 3; ligature_component = component } }

abbrev pub zwnj : Item
zwnj = record (glyph 20 1) { properties = record new_properties { ignorable = true; zwnj = true } }

abbrev pub zwj : Item
zwj = record (glyph 20 1) { properties = record new_properties { ignorable = true; zwj = true } }

abbrev pub after : Rule → List LigatureGlyphs → List Item → List Item
after r rows items = (ligated r rows (record new_buffer { items = items; positions = map (λ i. zero_position) items })).items

abbrev pub glyphs : List Item → List ℕ
glyphs items = map (λ (x : Item). x.glyph_id) items

abbrev pub clusters_of : List Item → List ℕ
clusters_of items = map (λ (x : Item). x.cluster) items

-- ids and components
abbrev pub stands : List Item → List (ℕ × ℕ)
stands items = map (λ (x : Item). (x.properties.ligature_id, x.properties.ligature_component)) items

abbrev pub classes_of : List Item → List ℕ
classes_of items = map (λ (x : Item). x.properties.glyph_class.0) items

abbrev pub vowelled : List Item
vowelled = glyph 1 0 ∷ mark 5 1 ∷ glyph 2 2 ∷ mark 6 3 ∷ []

pub record WorkedLigatures : Type 0 where
  pub side_by_side : glyphs (after rule lam_alef (glyph 1 0 ∷ glyph 2 1 ∷ glyph 2 2 ∷ [])) ≡ 9 ∷ 2 ∷ []
  pub one_cluster : clusters_of (after rule lam_alef (glyph 1 0 ∷ glyph 2 1 ∷ glyph 2 2 ∷ [])) ≡ 0 ∷ 2 ∷ []
  -- a mark in the cluster of the last component comes with it
  pub cluster_of_the_last : clusters_of (after rule lam_alef (glyph 1 0 ∷ glyph 2 1 ∷ mark 5 1 ∷ [])) ≡ 0 ∷ 0 ∷ []
  pub ligature_class : classes_of (after rule lam_alef (glyph 1 0 ∷ glyph 2 1 ∷ [])) ≡ 4 ∷ []
  -- components are those of a ligature by its class
  pub counted : counts (after rule lam_alef (glyph 1 0 ∷ glyph 2 1 ∷ [])) ≡ 2 ∷ []
  pub base_class : classes_of (after rule lam_alef_base (glyph 1 0 ∷ glyph 2 1 ∷ [])) ≡ 2 ∷ []
  pub of_one : counts (after rule lam_alef_base (glyph 1 0 ∷ glyph 2 1 ∷ [])) ≡ 1 ∷ []
  pub twice : glyphs (after rule lam_alef (glyph 1 0 ∷ glyph 2 1 ∷ glyph 1 2 ∷ glyph 2 3 ∷ [])) ≡ 9 ∷ 9 ∷ []
  pub alone : glyphs (after rule lam_alef (glyph 1 0 ∷ glyph 3 1 ∷ glyph 2 2 ∷ [])) ≡ 1 ∷ 3 ∷ 2 ∷ []
  pub second_off : glyphs (after rule lam_alef (glyph 1 0 ∷ record (glyph 2 1) { mask = 0 } ∷ [])) ≡ 1 ∷ 2 ∷ []
  -- over a mark, which stands on the first component then, in one cluster; the mark after the last component stays as it is
  pub over_a_mark : glyphs (after rule lam_alef vowelled) ≡ 9 ∷ 5 ∷ 6 ∷ []
  pub cluster_over_a_mark : clusters_of (after rule lam_alef vowelled) ≡ 0 ∷ 0 ∷ 3 ∷ []
  pub mark_between : stands (after rule lam_alef vowelled) ≡ (1, 0) ∷ (1, 1) ∷ (0, 0) ∷ []
  pub not_over_a_mark_that_is_seen : glyphs (after of_marks lam_alef vowelled) ≡ 1 ∷ 5 ∷ 2 ∷ 6 ∷ []
  pub over_zwj : glyphs (after rule lam_alef (glyph 1 0 ∷ zwj ∷ glyph 2 2 ∷ [])) ≡ 9 ∷ 20 ∷ []
  pub not_over_zwnj : glyphs (after rule lam_alef (glyph 1 0 ∷ zwnj ∷ glyph 2 2 ∷ [])) ≡ 1 ∷ 20 ∷ 2 ∷ []
  -- three letters, with marks on the first two
  pub of_three : glyphs (after rule lellah (glyph 1 0 ∷ mark 5 1 ∷ glyph 3 2 ∷ mark 6 3 ∷ glyph 4 4 ∷ [])) ≡ 10 ∷ 5 ∷ 6 ∷ []
  pub marks_of_three : stands (after rule lellah (glyph 1 0 ∷ mark 5 1 ∷ glyph 3 2 ∷ mark 6 3 ∷ glyph 4 4 ∷ [])) ≡ (1, 0) ∷ (1, 1) ∷ (1, 2) ∷ []
  pub only_two_of_three : glyphs (after rule lellah (glyph 1 0 ∷ glyph 3 1 ∷ glyph 2 2 ∷ [])) ≡ 1 ∷ 3 ∷ 2 ∷ []
  -- marks make a mark, which gets no id
  pub of_marks_alone : glyphs (after of_marks shadda_fatha (mark 7 0 ∷ mark 8 0 ∷ [])) ≡ 12 ∷ []
  pub mark_class : classes_of (after of_marks shadda_fatha (mark 7 0 ∷ mark 8 0 ∷ [])) ≡ 8 ∷ []
  pub no_id : stands (after of_marks shadda_fatha (mark 7 0 ∷ mark 8 0 ∷ [])) ≡ (0, 0) ∷ []
  -- on one component of a ligature, and on two
  -- at level CHARACTERS the mark keeps the cluster of the first component, and no other glyph gets that of the second one
  pub falling : clusters_of (ligated of_marks shadda_fatha (record new_buffer {
    items = mark 7 2 ∷ mark 8 0 ∷ glyph 1 3 ∷ [];
    positions = [];
    cluster_level = Characters;
  })).items ≡ 2 ∷ 3 ∷ []
  pub on_one_component : glyphs (after of_marks shadda_fatha (on_component 7 1 ∷ on_component 8 1 ∷ [])) ≡ 12 ∷ []
  pub on_two_components : glyphs (after of_marks shadda_fatha (on_component 7 1 ∷ on_component 8 2 ∷ [])) ≡ 7 ∷ 8 ∷ []

pub worked_ligatures : WorkedLigatures
unfolding merge as_ligature
worked_ligatures = record {
  side_by_side = refl;
  one_cluster = refl;
  cluster_of_the_last = refl;
  ligature_class = refl;
  counted = refl;
  base_class = refl;
  of_one = refl;
  twice = refl;
  alone = refl;
  second_off = refl;
  over_a_mark = refl;
  cluster_over_a_mark = refl;
  mark_between = refl;
  not_over_a_mark_that_is_seen = refl;
  over_zwj = refl;
  not_over_zwnj = refl;
  of_three = refl;
  marks_of_three = refl;
  only_two_of_three = refl;
  of_marks_alone = refl;
  mark_class = refl;
  no_id = refl;
  falling = refl;
  on_one_component = refl;
  on_two_components = refl;
}
