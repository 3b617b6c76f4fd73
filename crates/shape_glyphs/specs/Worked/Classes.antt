-- Glyphs and their classes, computed on small cases whose results are worked out by hand.
use Rattle.std.specs.Prelude.{◌≡◌, Bool, true, false, [], ◌∷◌, map, refl}
use Rattle.shape_items.specs.Buffer.{new_buffer}
use Rattle.shape_items.specs.Items.{Item, new_item}
use Rattle.shape_buffer.specs.Walks.{items_mapped}
use Rattle.shape_common.specs.declared.general_category.hb_unicode_general_category_t.{hb_unicode_general_category_t}
use Rattle.shape_common.specs.declared.general_category.hb_unicode_general_category_t.TheVariants.{NonspacingMark, SpacingMark, EnclosingMark, OtherLetter}
use Rattle.shape_glyphs.specs.Classes.{class_of_glyph, with_class, with_nominal_glyph, without_syllable, glyphs_mapped, classes_synthesised, syllables_cleared}

-- an item of a category, by whether it is ignorable and whether a lookup has replaced it
abbrev glyph : hb_unicode_general_category_t → Bool → Bool → Item
glyph category ignorable substituted =
    let item = new_item 0x301 0 in
    record item {
      glyph_index = 7;
      glyph_id = 9;
      mask = 5;
      properties = record item.properties {
        general_category = category;
        ignorable = ignorable;
        glyph_class = record { 0 = 12 };
        substituted = substituted;
        ligated = true;
        multiplied = true;
        mark_attachment_class = 2;
        ligature_id = 3;
        syllable = 4;
      };
    }

pub record ClassesOfGlyphs : Type 0 where
  pub nonspacing : (class_of_glyph (glyph NonspacingMark false false)).0 ≡ 8
  pub spacing : (class_of_glyph (glyph SpacingMark false false)).0 ≡ 2
  pub enclosing : (class_of_glyph (glyph EnclosingMark false false)).0 ≡ 2
  pub letter : (class_of_glyph (glyph OtherLetter false false)).0 ≡ 2
  pub ignorable_mark : (class_of_glyph (glyph NonspacingMark true false)).0 ≡ 2
  pub replaced_mark : (class_of_glyph (glyph NonspacingMark true true)).0 ≡ 8
  pub replaced_plain_mark : (class_of_glyph (glyph NonspacingMark false true)).0 ≡ 8
  -- asked before the bit is cleared
  pub asked_first : (with_class (glyph NonspacingMark true true)).properties.glyph_class.0 ≡ 8
  pub clears_substituted : (with_class (glyph NonspacingMark true true)).properties.substituted ≡ false
  pub clears_ligated : (with_class (glyph OtherLetter false true)).properties.ligated ≡ false
  pub clears_multiplied : (with_class (glyph OtherLetter false true)).properties.multiplied ≡ false
  pub clears_attachment : (with_class (glyph NonspacingMark false true)).properties.mark_attachment_class ≡ 0
  pub clears_no_more : record (with_class (glyph OtherLetter true true)) { properties = (glyph OtherLetter true true).properties }
      ≡ glyph OtherLetter true true
  pub preserves_ligature : (with_class (glyph OtherLetter true true)).properties.ligature_id ≡ 3
  pub glyph_of_index : (with_nominal_glyph (glyph OtherLetter false false)).glyph_id ≡ 7
  pub index_stays : (with_nominal_glyph (glyph OtherLetter false false)).glyph_index ≡ 7
  pub no_syllable : (without_syllable (glyph OtherLetter false false)).properties.syllable ≡ 0
  pub all_items : map (λ item. item.properties.syllable) (syllables_cleared
      (record new_buffer { items = glyph OtherLetter false false ∷ glyph SpacingMark false false ∷ [] })).items ≡ 0 ∷ 0 ∷ []
  pub all_glyphs : map (λ item. item.glyph_id) (glyphs_mapped
      (record new_buffer { items = glyph OtherLetter false false ∷ glyph SpacingMark false false ∷ [] })).items ≡ 7 ∷ 7 ∷ []
  pub all_classes : map (λ item. item.properties.glyph_class.0)
      (classes_synthesised (record new_buffer { items = glyph OtherLetter false false ∷ glyph NonspacingMark false false ∷ [] })).items
      ≡ 2 ∷ 8 ∷ []

pub classes_of_glyphs : ClassesOfGlyphs
unfolding glyphs_mapped classes_synthesised syllables_cleared items_mapped
classes_of_glyphs = record {
  nonspacing = refl;
  spacing = refl;
  enclosing = refl;
  letter = refl;
  ignorable_mark = refl;
  replaced_mark = refl;
  replaced_plain_mark = refl;
  asked_first = refl;
  clears_substituted = refl;
  clears_ligated = refl;
  clears_multiplied = refl;
  clears_attachment = refl;
  clears_no_more = refl;
  preserves_ligature = refl;
  glyph_of_index = refl;
  index_stays = refl;
  no_syllable = refl;
  all_items = refl;
  all_glyphs = refl;
  all_classes = refl;
}
