-- The parts of a ligature, by hand: its id, what its components count, and what becomes of marks (OpenType, "GSUB", "Ligature substitution").
use Rattle.std.specs.Prelude.{◌≡◌, ℕ, true, false, Some, None, List, [], ◌∷◌, map, refl}
use Rattle.shape_common.specs.declared.general_category.hb_unicode_general_category_t.TheVariants.{DecimalNumber, NonspacingMark, OtherLetter}
use Rattle.shape_items.specs.Buffer.{Buffer, new_buffer}
use Rattle.shape_items.specs.Items.{Item}
use Rattle.arabic_fallback.specs.Ligating.{all_marks, before_of, component_among, count_at, counts_of, followers, follows, id_given, id_of, is_component}
use Rattle.arabic_fallback.specs.Ligating.{is_own, joined_item, ligated_at, ligation_of, total_of, tried_at}
use Rattle.arabic_fallback.specs.Classes.{alone}
use Rattle.arabic_fallback.specs.Replaced.{LIGATURE_CLASS, as_component, classed, components_of, is_gone, is_ligated, with_components}
use Rattle.arabic_fallback.specs.Worked.Forms.{rule}
use Rattle.arabic_fallback.specs.Worked.Ligatures.{glyph, lam_alef, mark, on_component}
use Rattle.arabic_fallback.specs.declared.ligating.Ligation.{Ligation}
use Rattle.arabic_fallback.specs.declared.ligatures.Found.{Found}

-- components side by side, and three with an item between each two
abbrev pub two : Found
two = record { second = 1; third = None; last = 1; ligature = record { glyph = 9; class = None } }

abbrev pub three : Found
three = record { second = 1; third = Some 2; last = 2; ligature = record { glyph = 9; class = None } }

abbrev pub spread : Found
spread = record { second = 2; third = Some 4; last = 4; ligature = record { glyph = 9; class = None } }

-- a glyph of a class, and one of so many components
abbrev pub of_class : ℕ → Item
of_class class = record (glyph 5 0) { properties = record (glyph 5 0).properties { glyph_class = record { 0 = class } } }

abbrev pub of_components : ℕ → Item
of_components count = record (of_class 4) { properties = record (of_class 4).properties { number_of_components = count } }

-- a text in which two ligatures have been made
abbrev pub text : List Item → Buffer
text items = record new_buffer { items = items; serial = 2 }

-- of components 2, 3 and 1, with an id of its own
abbrev pub of_six : Ligation
of_six = record {
  at = 0;
  found = spread;
  counts = record { first = 2; second = 3; third = 1 };
  own = true;
  marks = false;
  id = 5;
  last_id = 3;
}

abbrev pub stands : Item → ℕ × ℕ
stands x = (x.properties.ligature_id, x.properties.ligature_component)

-- two marks on the last component, and a letter
abbrev pub followed : List Item
followed = glyph 1 0 ∷ mark 6 0 ∷ glyph 2 0 ∷ mark 6 0 ∷ glyph 3 0 ∷ on_component 7 1 ∷ on_component 8 1 ∷ glyph 4 0 ∷ []

pub record WorkedParts : Type 0 where
  pub of_marks : all_marks (mark 7 0 ∷ mark 8 0 ∷ []) two ≡ true
  pub second_is_a_letter : all_marks (mark 7 0 ∷ glyph 2 0 ∷ []) two ≡ false
  pub three_marks : all_marks (mark 7 0 ∷ mark 8 0 ∷ mark 8 0 ∷ []) three ≡ true
  pub third_is_a_letter : all_marks (mark 7 0 ∷ mark 8 0 ∷ glyph 2 0 ∷ []) three ≡ false
  -- a ligature of letters has an id of its own; one of marks has none, nor has a base with marks
  pub own_of_letters : is_own (glyph 1 0 ∷ glyph 2 0 ∷ []) 0 two ≡ true
  pub none_of_marks : is_own (mark 7 0 ∷ mark 8 0 ∷ []) 0 two ≡ false
  pub none_of_a_base : is_own (of_class 2 ∷ mark 8 0 ∷ []) 0 two ≡ false
  pub own_of_a_ligature : is_own (of_class 4 ∷ mark 8 0 ∷ []) 0 two ≡ true
  pub own_id : id_of true (text []) ≡ 3
  pub no_id : id_of false (text []) ≡ 0
  pub id_is_counted : (id_given true (text [])).serial ≡ 3
  pub none_is_counted : (id_given false (text [])).serial ≡ 2
  pub after_seven : (id_given true (record (text []) { serial = 7 })).serial ≡ 1
  pub marks_alone : (ligation_of 0 two (text (mark 7 0 ∷ mark 8 0 ∷ []))).marks ≡ true
  pub base_and_mark : (ligation_of 0 two (text (of_class 2 ∷ mark 8 0 ∷ []))).marks ≡ false
  pub mark_and_letter : (ligation_of 0 two (text (mark 7 0 ∷ glyph 2 0 ∷ []))).marks ≡ false
  pub last_id : (ligation_of 0 two (text (glyph 1 0 ∷ on_component 2 1 ∷ []))).last_id ≡ 3
  -- a ligature counts as its components, any other glyph as one
  pub counts : counts_of (glyph 1 0 ∷ of_components 3 ∷ of_components 2 ∷ []) 0 three ≡ record { first = 1; second = 3; third = 2 }
  pub no_third : counts_of (of_components 3 ∷ glyph 1 0 ∷ []) 0 two ≡ record { first = 3; second = 1; third = 0 }
  pub of_another_class : components_of (record (of_components 3) {
    properties = record (of_components 3).properties { glyph_class = record { 0 = 2 } };
  }) ≡ 1
  pub six : total_of of_six.counts ≡ 6
  -- what stands before the components at places 2 and 4, between them and after them
  pub components_before : map (before_of of_six) (1 ∷ 2 ∷ 3 ∷ 4 ∷ 5 ∷ []) ≡ 0 ∷ 0 ∷ 2 ∷ 2 ∷ 5 ∷ []
  pub counts_there : map (count_at of_six) (1 ∷ 2 ∷ 3 ∷ 4 ∷ 5 ∷ []) ≡ 2 ∷ 2 ∷ 3 ∷ 3 ∷ 1 ∷ []
  pub after_two : before_of (record of_six { found = two }) 3 ≡ 2
  pub count_after_two : count_at (record of_six { found = two }) 3 ≡ 3
  pub components : map (is_component spread) (0 ∷ 1 ∷ 2 ∷ 3 ∷ 4 ∷ 5 ∷ []) ≡ false ∷ false ∷ true ∷ false ∷ true ∷ false ∷ []
  -- a mark stands on the last component before it, or on that part of it that it stood on
  pub on_the_whole : component_among of_six 1 (mark 6 0) ≡ 2
  pub on_a_part : component_among of_six 3 (on_component 6 2) ≡ 4
  pub past_the_parts : component_among of_six 3 (on_component 6 5) ≡ 5
  pub after_the_third : component_among of_six 5 (on_component 6 1) ≡ 6
  pub component_goes : is_gone (joined_item of_six 2 (glyph 2 0)) ≡ true
  pub mark_stays : is_gone (joined_item of_six 1 (mark 6 0)) ≡ false
  pub mark_joins : stands (joined_item of_six 1 (mark 6 0)) ≡ (5, 2)
  pub without_an_id : stands (joined_item (record of_six { own = false }) 1 (on_component 6 1)) ≡ (3, 1)
  pub follower_joins : stands (joined_item (record of_six { own = false }) 5 (on_component 6 1)) ≡ (5, 6)
  pub follower : follows 3 (on_component 6 1) ≡ true
  pub of_another : follows 4 (on_component 6 1) ≡ false
  pub of_the_whole : follows 3 (on_component 6 0) ≡ false
  pub two_follow : followers of_six followed ≡ 2
  pub marks_have_none : followers (record of_six { marks = true }) followed ≡ 0
  pub no_ligature_before : followers (record of_six { last_id = 0 }) (glyph 1 0 ∷ mark 6 0 ∷ glyph 2 0 ∷ mark 6 0 ∷ glyph 3 0 ∷ []) ≡ 0
  pub on_the_first : followers (record of_six { last_id = 1; found = two })
      (glyph 1 0 ∷ glyph 2 0 ∷ record (on_component 6 1) { properties = record (on_component 6 1).properties { ligature_id = 1 } } ∷ []) ≡ 1
  pub next_place : (tried_at 4 None (text [])).next ≡ 5
  pub after_the_last : (tried_at 0 (Some two) (text (glyph 1 0 ∷ glyph 2 0 ∷ []))).next ≡ 2
  -- a glyph for which the lookup is off, and one before the place that it goes on at
  pub off : (ligated_at rule lam_alef 0 (record { buffer = text (record (glyph 1 0) { mask = 0 } ∷ glyph 2 0 ∷ []); next = 0 })).next ≡ 0
  pub done_already : (ligated_at rule lam_alef 0 (record { buffer = text (glyph 1 0 ∷ glyph 2 0 ∷ []); next = 1 })).next ≡ 1
  -- what a ligature is: its class, its components in four bits, a letter where a mark was
  pub class : LIGATURE_CLASS ≡ record { class = record { 0 = 4 }; attachment = 0 }
  pub bits_of_classes : (classed (record { class = record { 0 = 9 }; attachment = 7 }) (glyph 1 0)).properties.glyph_class.0 ≡ 8
  pub attachment : (classed (record { class = record { 0 = 8 }; attachment = 7 }) (glyph 1 0)).properties.mark_attachment_class ≡ 7
  pub joined : stands (as_component 5 2 (of_components 3)) ≡ (5, 2)
  pub joined_is_one : (as_component 5 2 (of_components 3)).properties.number_of_components ≡ 1
  pub joined_in_four_bits : stands (as_component 5 18 (glyph 1 0)) ≡ (5, 2)
  pub in_four_bits : (with_components 5 18 (glyph 1 0)).properties.number_of_components ≡ 2
  pub on_no_other : stands (with_components 5 2 (on_component 6 1)) ≡ (5, 0)
  pub mark_is_a_letter : (with_components 5 2 (record (mark 6 0) {
    properties = record (mark 6 0).properties { general_category = NonspacingMark; modified_ccc = 220 };
  })).properties.general_category ≡ OtherLetter
  pub letter_has_no_ccc : (with_components 5 2 (record (mark 6 0) {
    properties = record (mark 6 0).properties { general_category = NonspacingMark; modified_ccc = 220 };
  })).properties.modified_ccc ≡ 0
  pub number_stays : (with_components 5 2 (record (glyph 6 0) {
    properties = record (glyph 6 0).properties { general_category = DecimalNumber; modified_ccc = 9 };
  })).properties.general_category ≡ DecimalNumber
  pub its_ccc_stays : (with_components 5 2 (record (glyph 6 0) {
    properties = record (glyph 6 0).properties { general_category = DecimalNumber; modified_ccc = 9 };
  })).properties.modified_ccc ≡ 9
  pub ligated : (is_ligated (glyph 1 0)).properties.ligated ≡ true
  pub not_multiplied : (is_ligated (record (glyph 1 0) { properties = record (glyph 1 0).properties { multiplied = true } })).properties.multiplied ≡ false
  -- a text of one glyph, whose class is asked for
  pub alone_with_it : map (λ (x : Item). x.glyph_id) (alone 7).items ≡ 7 ∷ []
  pub in_its_cluster : map (λ (p : Item). p.cluster) (alone 7).items ≡ 0 ∷ []

pub worked_parts : WorkedParts
worked_parts = record {
  of_marks = refl;
  second_is_a_letter = refl;
  three_marks = refl;
  third_is_a_letter = refl;
  own_of_letters = refl;
  none_of_marks = refl;
  none_of_a_base = refl;
  own_of_a_ligature = refl;
  own_id = refl;
  no_id = refl;
  id_is_counted = refl;
  none_is_counted = refl;
  after_seven = refl;
  marks_alone = refl;
  base_and_mark = refl;
  mark_and_letter = refl;
  last_id = refl;
  counts = refl;
  no_third = refl;
  of_another_class = refl;
  six = refl;
  components_before = refl;
  counts_there = refl;
  after_two = refl;
  count_after_two = refl;
  components = refl;
  on_the_whole = refl;
  on_a_part = refl;
  past_the_parts = refl;
  after_the_third = refl;
  component_goes = refl;
  mark_stays = refl;
  mark_joins = refl;
  without_an_id = refl;
  follower_joins = refl;
  follower = refl;
  of_another = refl;
  of_the_whole = refl;
  two_follow = refl;
  marks_have_none = refl;
  no_ligature_before = refl;
  on_the_first = refl;
  next_place = refl;
  after_the_last = refl;
  off = refl;
  done_already = refl;
  class = refl;
  bits_of_classes = refl;
  attachment = refl;
  joined = refl;
  joined_is_one = refl;
  joined_in_four_bits = refl;
  in_four_bits = refl;
  on_no_other = refl;
  mark_is_a_letter = refl;
  letter_has_no_ccc = refl;
  number_stays = refl;
  its_ccc_stays = refl;
  ligated = refl;
  not_multiplied = refl;
  alone_with_it = refl;
  in_its_cluster = refl;
}
