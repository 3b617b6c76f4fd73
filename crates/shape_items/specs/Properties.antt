-- The properties of an item that have a name, whatever their storage.
use Rattle.std.specs.Prelude.{ℕ, Bool}
use Rattle.shape_common.specs.declared.general_category.hb_unicode_general_category_t.{hb_unicode_general_category_t}
use Rattle.shape_common.specs.declared.flags.GlyphPropsFlags.{GlyphPropsFlags}

-- what an item says of itself besides its character, glyph, mask and cluster
pub record Properties : Type 0 where
  pub general_category : hb_unicode_general_category_t
  pub modified_ccc : ℕ
  pub ignorable : Bool
  pub hidden : Bool
  pub continuation : Bool
  pub zwj : Bool
  pub zwnj : Bool
  pub space_type : ℕ
  pub selector_mark : Bool
  pub glyph_class : GlyphPropsFlags
  pub substituted : Bool
  pub ligated : Bool
  pub multiplied : Bool
  pub mark_attachment_class : ℕ
  pub ligature_id : ℕ
  pub ligature_component : ℕ
  pub number_of_components : ℕ
  pub syllable : ℕ
  pub shaper_category : ℕ
  pub shaper_auxiliary : ℕ
