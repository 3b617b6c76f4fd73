-- Ligatures on tables of 16-bit words and what they cost, what becomes of items, and what deleting costs, computed by hand.
pub mod Would
pub mod Made
pub mod Lists
use Rattle.std.specs.Prelude.{◌≡◌, ℕ, Bool, List, [], ◌∷◌, Option, Some, None, true, false, refl, map}
use Rattle.std.specs.Option.{option_map}
use Rattle.shape_font.specs.Worked.Glyphs.{words}
use Rattle.shape_common.specs.declared.general_category.hb_unicode_general_category_t.TheVariants.{NonspacingMark, OtherLetter}
use Rattle.shape_items.specs.Buffer.{Buffer, new_buffer}
use Rattle.shape_items.specs.Clusters.{merge}
use Rattle.shape_items.specs.Items.{Item, new_item, new_properties}
use Rattle.layout_matching.specs.Sifted.{begins_with_another}
use Rattle.layout_matching.specs.declared.glance.Glance.{Glance}
use Rattle.layout_matching.specs.declared.glance.Glance.TheVariants.{Open, Closed, Only}
use Rattle.layout_matching.specs.declared.lookup.Lookup.{Lookup}
use Rattle.layout_substitution.specs.Applied.{deleted}
use Rattle.layout_substitution.specs.Ligatures.{ligature_matched, second_glance, following_charged, merging_charged, ligature_put}
use Rattle.layout_substitution.specs.Replaced.{replaced, is_multiplied, taken_apart, with_components, as_ligature}
use Rattle.layout_substitution.specs.Start.{begun_item}
use Rattle.layout_substitution.specs.Substitutes.{has_components}
use Rattle.layout_substitution.specs.declared.apply.Spot.{Spot}

-- a lookup that skips no glyph, and passes over ZWJ within what it matches
abbrev pub seeing_all : Lookup → Lookup
seeing_all l = record l { flags = 0; mask = 1; positioning = false; auto_zwj = true; per_syllable = false }

abbrev pub glyph : ℕ → Item
glyph g = record (new_item 0 0) { glyph_id = g; mask = 1 }

abbrev pub a_zwj : Item
a_zwj = record (glyph 8) { properties = record new_properties { ignorable = true; zwj = true } }

abbrev pub Glances : List Item → Glance → Type 0
Glances items glance = (l : Lookup) → second_glance (seeing_all l) (record new_buffer { items = items }) 0 ≡ glance

-- what is left of so much at place 5 after the marks up to a place followed a ligature
abbrev pub LeftAfter : ℕ → ℕ → ℕ → Type 0
LeftAfter end before left = (random whole : ℕ)
    → (following_charged end (record { at = 5; random = random; left = before; whole = whole })).left ≡ left

pub record WorkedLigatures : Type 0 where
  -- a glyph, a count with the first component, and the other components
  pub two_components : has_components (words (50 ∷ 2 ∷ 6 ∷ [])) 0 ≡ true
  pub second_missing : has_components (words (50 ∷ 2 ∷ [])) 0 ≡ false
  pub one_component : has_components (words (50 ∷ 1 ∷ [])) 0 ≡ true
  pub no_component : has_components (words (50 ∷ 0 ∷ [])) 0 ≡ false
  pub next_glyph : Glances (glyph 5 ∷ glyph 6 ∷ glyph 7 ∷ []) (Only 6)
  pub no_next_glyph : Glances (glyph 5 ∷ []) Closed
  pub next_joiner : Glances (glyph 5 ∷ a_zwj ∷ glyph 7 ∷ []) Open
  -- the next glyph refuses a second component that is another one, and no ligature of one component
  pub another_second : begins_with_another (words (50 ∷ 2 ∷ 6 ∷ [])) (Only 7) 0 ≡ true
  pub the_second : begins_with_another (words (50 ∷ 2 ∷ 6 ∷ [])) (Only 6) 0 ≡ false
  pub no_second_wanted : begins_with_another (words (50 ∷ 1 ∷ [])) Closed 0 ≡ false
  pub cut_stands_nowhere : (l : Lookup) (b : Buffer) (at : ℕ) → l.table.now ≡ words (50 ∷ 2 ∷ []) → ligature_matched l b at 0 ≡ None
  -- each mark that follows costs four
  pub none_follows : LeftAfter 5 10 10
  pub one_follows : LeftAfter 6 10 6
  pub three_follow : LeftAfter 8 12 0
  pub too_little : LeftAfter 8 11 0

pub worked_ligatures : WorkedLigatures
worked_ligatures = record {
  two_components = refl;
  second_missing = refl;
  one_component = refl;
  no_component = refl;
  next_glyph = λ l. refl;
  no_next_glyph = λ l. refl;
  next_joiner = λ l. refl;
  another_second = refl;
  the_second = refl;
  no_second_wanted = refl;
  cut_stands_nowhere = λ l b at t. rw t refl;
  none_follows = λ random whole. refl;
  one_follows = λ random whole. refl;
  three_follow = λ random whole. refl;
  too_little = λ random whole. refl;
}

-- a glyph that lookups ligated or multiplied before
abbrev pub with_past : Bool → Bool → Item
with_past ligated multiplied = record (new_item 0 0) { properties = record new_properties { ligated = ligated; multiplied = multiplied } }

abbrev pub Holds : (Lookup → Type 0) → Type 0
Holds fact = (l : Lookup) → l.gdef.now ≡ [] → fact l

pub record WorkedPasts : Type 0 where
  pub first_component : Holds (λ l. (taken_apart l 30 0 (with_past false false)).properties.multiplied ≡ true)
  pub second_component : Holds (λ l. (taken_apart l 31 1 (with_past false false)).properties.multiplied ≡ true)
  -- a component of a ligature is ligated and multiplied
  pub component_of_a_ligature : Holds (λ l. (taken_apart l 31 1 (with_past true false)).properties.ligated ≡ true)
  pub ligature : Holds (λ l. (as_ligature l true 1 2 51 (with_past false false)).properties.ligated ≡ true)
  -- a ligature of components is ligated alone
  pub ligature_of_components : Holds (λ l. (as_ligature l true 1 2 51 (with_past false true)).properties.multiplied ≡ false)
  pub ligature_of_marks : Holds (λ l. (as_ligature l false 0 2 51 (with_past false true)).properties.multiplied ≡ false)
  -- one glyph for one changes neither
  pub replaced_component : Holds (λ l. (replaced l 0 52 (with_past false true)).properties.multiplied ≡ true)
  pub replaced_glyph : Holds (λ l. (replaced l 0 52 (with_past false false)).properties.multiplied ≡ false)

pub worked_pasts : WorkedPasts
unfolding is_multiplied as_ligature
worked_pasts = record {
  first_component = λ l g. refl;
  second_component = λ l g. refl;
  component_of_a_ligature = λ l g. rw g refl;
  ligature = λ l g. refl;
  ligature_of_components = λ l g. refl;
  ligature_of_marks = λ l g. refl;
  replaced_component = λ l g. rw g refl;
  replaced_glyph = λ l g. rw g refl;
}

-- a nonspacing mark of class 230
abbrev pub mark_above : Item
mark_above = record (new_item 0 0) { properties = record new_properties { general_category = NonspacingMark; modified_ccc = 230 } }

abbrev pub letter_above : Item
letter_above = record (new_item 0 0) { properties = record new_properties { general_category = OtherLetter; modified_ccc = 7 } }

-- GDEF: glyph 9 is a mark, of mark attachment class 3; glyph 5 is a base
abbrev pub two_glyphs : List ℕ
two_glyphs = words (1 ∷ 0 ∷ 12 ∷ 0 ∷ 0 ∷ 32 ∷ 2 ∷ 2 ∷ 5 ∷ 5 ∷ 1 ∷ 9 ∷ 9 ∷ 3 ∷ 0 ∷ 0 ∷ 1 ∷ 9 ∷ 1 ∷ 3 ∷ [])

-- the same with a NULL GlyphClassDef
abbrev pub no_classes : List ℕ
no_classes = words (1 ∷ 0 ∷ 0 ∷ 0 ∷ 0 ∷ 32 ∷ 2 ∷ 2 ∷ 5 ∷ 5 ∷ 1 ∷ 9 ∷ 9 ∷ 3 ∷ 0 ∷ 0 ∷ 1 ∷ 9 ∷ 1 ∷ 3 ∷ [])

-- a glyph that lookups had made
abbrev pub made_before : ℕ → Item
made_before g = record (new_item 0 0) {
  glyph_id = g;
  properties = record new_properties {
    substituted = true;
    multiplied = true;
    ligature_id = 2;
    ligature_component = 1;
    number_of_components = 3;
  };
}

pub record WorkedBeginnings : Type 0 where
  -- a mark that becomes a letter has no combining class
  pub letter_has_no_class : (with_components 1 2 mark_above).properties.modified_ccc ≡ 0
  pub class_of_a_letter_stays : (with_components 1 2 letter_above).properties.modified_ccc ≡ 7
  pub mark : (begun_item two_glyphs (made_before 9)).properties.glyph_class.0 ≡ 8
  pub mark_class : (begun_item two_glyphs (made_before 9)).properties.mark_attachment_class ≡ 3
  pub base : (begun_item two_glyphs (made_before 5)).properties.glyph_class.0 ≡ 2
  pub base_class : (begun_item two_glyphs (made_before 5)).properties.mark_attachment_class ≡ 0
  pub no_glyph_classes : (begun_item no_classes (made_before 9)).properties.mark_attachment_class ≡ 0
  pub not_substituted : (begun_item two_glyphs (made_before 9)).properties.substituted ≡ false
  pub of_no_ligature : (begun_item two_glyphs (made_before 9)).properties.ligature_id ≡ 0
  -- a glyph that is put in place has the class of GDEF
  pub replaced_mark : (l : Lookup) → l.gdef.now ≡ two_glyphs → (replaced l 0 9 (made_before 5)).properties.mark_attachment_class ≡ 3
  pub replaced_base : (l : Lookup) → l.gdef.now ≡ two_glyphs
      → (replaced l 0 5 (replaced l 0 9 (made_before 5))).properties.mark_attachment_class ≡ 0

pub worked_beginnings : WorkedBeginnings
worked_beginnings = record {
  letter_has_no_class = refl;
  class_of_a_letter_stays = refl;
  mark = refl;
  mark_class = refl;
  base = refl;
  base_class = refl;
  no_glyph_classes = refl;
  not_substituted = refl;
  of_no_ligature = refl;
  replaced_mark = λ l g. rw g refl;
  replaced_base = λ l g. rw g refl;
}

-- a ligature has components if its class is that of ligatures: as is guessed without GDEF, or as GDEF says
pub record WorkedCounts : Type 0 where
  pub of_a_ligature : Holds (λ l. (as_ligature l true 1 2 5 (with_past false false)).properties.number_of_components ≡ 2)
  pub of_a_base : (l : Lookup) → l.gdef.now ≡ two_glyphs
      → (as_ligature l true 1 2 5 (with_past false false)).properties.number_of_components ≡ 1
  -- one glyph put in place of a ligature, of the class of bases
  pub replaced_by_a_base : (l : Lookup) → l.gdef.now ≡ two_glyphs → (replaced l 0 5 (made_before 20)).properties.number_of_components ≡ 1
  pub class_stays : Holds (λ l. (replaced l 0 5 (made_before 20)).properties.number_of_components ≡ 3)

pub worked_counts : WorkedCounts
unfolding as_ligature
worked_counts = record {
  of_a_ligature = λ l g. rw g refl;
  of_a_base = λ l g. rw g refl;
  replaced_by_a_base = λ l g. rw g refl;
  class_stays = λ l g. rw g refl;
}

-- ---- deleting

abbrev pub in_cluster : ℕ → Item
in_cluster c = new_item 0 c

abbrev pub left_in : Spot → ℕ
left_in spot = spot.left

-- what is left of so much after the glyph at a place was deleted; none if it wasn't
abbrev pub LeftDeleting : List Item → ℕ → ℕ → Option ℕ → Type 0
LeftDeleting items at before left = (random whole : ℕ)
    → option_map left_in (deleted (record { at = at; random = random; left = before; whole = whole })
    (record new_buffer { items = items })).next ≡ left

-- right to left clusters fall, left to right they rise
abbrev pub falling : List Item
falling = in_cluster 3 ∷ in_cluster 2 ∷ in_cluster 2 ∷ in_cluster 2 ∷ in_cluster 1 ∷ []

abbrev pub shared : List Item
shared = in_cluster 2 ∷ in_cluster 1 ∷ in_cluster 1 ∷ []

pub record WorkedDeletions : Type 0 where
  -- its cluster is handed to three glyphs, each of which costs one
  pub handed_to_three : LeftDeleting falling 4 10 (Some 7)
  pub handed_to_one : LeftDeleting (in_cluster 3 ∷ in_cluster 2 ∷ in_cluster 1 ∷ []) 1 10 (Some 9)
  pub all_is_spent : LeftDeleting falling 4 3 (Some 0)
  pub too_little : LeftDeleting falling 4 2 (Some 0)
  pub nothing_left : LeftDeleting falling 4 0 None
  -- the glyph after it has the cluster, or the cluster before is less
  pub after_it : LeftDeleting shared 1 10 (Some 10)
  pub handed_to_none : LeftDeleting (in_cluster 1 ∷ in_cluster 2 ∷ []) 1 10 (Some 10)

pub worked_deletions : WorkedDeletions
worked_deletions = record {
  handed_to_three = λ random whole. refl;
  handed_to_one = λ random whole. refl;
  all_is_spent = λ random whole. refl;
  too_little = λ random whole. refl;
  nothing_left = λ random whole. refl;
  after_it = λ random whole. refl;
  handed_to_none = λ random whole. refl;
}

-- ---- what a ligature costs after it is made

abbrev pub in_clusters : List ℕ → Buffer
in_clusters clusters = record new_buffer { items = map in_cluster clusters }

-- two in a cluster before the components, which goes over into that of the last one
abbrev pub two_before : List ℕ
two_before = 3 ∷ 3 ∷ 3 ∷ 2 ∷ 1 ∷ []

-- what is left of so much after the clusters of its components were merged
abbrev pub LeftMerging : ℕ → ℕ → Type 0
LeftMerging before left = (random whole : ℕ)
    → (merging_charged 3 (in_clusters two_before) (record { at = 2; random = random; left = before; whole = whole })).left ≡ left

pub record WorkedMergings : Type 0 where
  pub charged : LeftMerging 10 8
  pub just_enough : LeftMerging 2 0
  pub too_little : LeftMerging 1 0

pub worked_mergings : WorkedMergings
worked_mergings = record {
  charged = λ random whole. refl;
  just_enough = λ random whole. refl;
  too_little = λ random whole. refl;
}

-- the ligature 50 of 5 and 6
abbrev pub of_two : Lookup → Lookup
of_two l = record (seeing_all l) { table = record l.table { now = words (50 ∷ 2 ∷ 6 ∷ []) }; gdef = record l.gdef { now = [] } }

abbrev pub glyph_in : ℕ → ℕ → Item
glyph_in g c = record (new_item 0 c) { glyph_id = g; mask = 1 }

-- a glyph that was made of a ligature, and a mark on it
abbrev pub of_ligature : ℕ → Item → Item
of_ligature component item = record item { properties = record new_properties { ligature_id = 7; ligature_component = component } }

-- what is left of so much after the ligature of the components from one place to another was made
abbrev pub LeftLigating : List Item → ℕ → ℕ → ℕ → ℕ → Type 0
LeftLigating items at last before left = (l : Lookup) (random whole : ℕ)
    → option_map left_in (ligature_put (of_two l) (record { at = at; random = random; left = before; whole = whole })
    (record new_buffer { items = items }) (record { ligature = 0; last = last; all_marks = false })).next ≡ Some left

abbrev pub six_with_marks : List Item
six_with_marks = of_ligature 0 (glyph_in 6 2) ∷ of_ligature 1 (glyph_in 8 2) ∷ of_ligature 1 (glyph_in 8 2) ∷ glyph_in 4 1 ∷ []

pub record WorkedLigating : Type 0 where
  pub free : LeftLigating (glyph_in 5 3 ∷ glyph_in 6 2 ∷ glyph_in 4 1 ∷ []) 0 1 20 20
  -- both marks follow, and not the glyph behind them
  pub two_follow : LeftLigating (glyph_in 5 3 ∷ six_with_marks) 0 1 20 12
  -- nor one that stands between the components
  pub one_between : LeftLigating (glyph_in 5 3 ∷ glyph_in 9 3 ∷ six_with_marks) 0 2 20 12
  pub one_beside : LeftLigating (glyph_in 5 3 ∷ glyph_in 5 3 ∷ glyph_in 6 2 ∷ glyph_in 4 1 ∷ []) 1 2 20 19
  pub both : LeftLigating (glyph_in 5 3 ∷ glyph_in 5 3 ∷ six_with_marks) 1 2 20 11
  -- the last component's cluster is the least, and not that of the glyph between them
  pub over_one_between : LeftLigating (glyph_in 5 3 ∷ glyph_in 5 3 ∷ glyph_in 9 3 ∷ six_with_marks) 1 3 20 11
  pub just_enough : LeftLigating (glyph_in 5 3 ∷ glyph_in 5 3 ∷ six_with_marks) 1 2 9 0
  pub too_little : LeftLigating (glyph_in 5 3 ∷ glyph_in 5 3 ∷ six_with_marks) 1 2 8 0

pub worked_ligating : WorkedLigating
unfolding merge as_ligature
worked_ligating = record {
  free = λ l random whole. refl;
  two_follow = λ l random whole. refl;
  one_between = λ l random whole. refl;
  one_beside = λ l random whole. refl;
  both = λ l random whole. refl;
  over_one_between = λ l random whole. refl;
  just_enough = λ l random whole. refl;
  too_little = λ l random whole. refl;
}
