-- What one word names, and glyphs as text, read by hand.
use Rattle.std.specs.Prelude.{◌≡◌, ◌==◌, if◌then◌else◌, ℕ, ℤ, pos, negsuc, false, List, [], ◌∷◌, ◌++◌, replicate, Option, Some, None, codes, map, refl}
use Rattle.std.specs.Fmt.{digits}
use Rattle.std.specs.Int.{int_wrap}
use Rattle.std.specs.Str.{is_utf8, chars}
use lib.Utf8.{encode}
use Rattle.shape_items.specs.Items.{Item, new_item}
use Rattle.shape_common.specs.Wrapping.{◌+ʷ◌}
use Rattle.shape_common.specs.declared.positions.GlyphPosition.{GlyphPosition}
use Rattle.shape_common.specs.declared.text_types.Script.{Script}
use Rattle.shape_common.specs.declared.text_types.Direction.TheVariants.{Invalid, LeftToRight, RightToLeft, TopToBottom, BottomToTop}
use Rattle.shape_font.specs.Worked.Names.{left_out, four_names}
use Rattle.shape_font.specs.Names.{glyph_name}
use Rattle.shape_text_forms.specs.FontNames.{written}
use Rattle.shape_text_forms.specs.Names.{direction_of_text, language_of_text, tag_of_text, script_of_text}
use Rattle.shape_text_forms.specs.Serialize.{Form}
use Rattle.shape_text_forms.specs.Lists.{serialized, part_text, spot_after, start}
use Rattle.shape_text_forms.specs.declared.content.ListForm.TheVariants.{Text}

abbrev pub script : ℕ → Option Script
script tag = Some (record { 0 = record { 0 = tag } })

pub record WorkedNames : Type 0 where
  pub left : direction_of_text (codes "ltr") ≡ LeftToRight
  pub right : direction_of_text (codes "right-to-left") ≡ RightToLeft
  pub top : direction_of_text (codes "TTB") ≡ TopToBottom
  pub bottom : direction_of_text (codes "b") ≡ BottomToTop
  pub no_direction : direction_of_text (codes "auto") ≡ Invalid
  pub no_text : direction_of_text (codes "") ≡ Invalid
  pub english : language_of_text (codes "en_US") ≡ Some (codes "en-us")
  pub persian : language_of_text (codes "fa_IR.UTF-8") ≡ Some (codes "fa-ir")
  pub as_it_is : language_of_text (codes "zh-hant-hk") ≡ Some (codes "zh-hant-hk")
  pub with_digits : language_of_text (codes "es-419") ≡ Some (codes "es-419")
  pub no_name : language_of_text (codes ".utf8") ≡ None
  pub no_language : language_of_text (codes "") ≡ None
  pub four_bytes : tag_of_text (codes "Latn") ≡ 0x4C61746E
  pub filled_up : tag_of_text (codes "yi") ≡ 0x79692020
  pub cut_off : tag_of_text (codes "Latin") ≡ 0x4C617469
  pub no_tag : tag_of_text (codes "") ≡ 0
  pub latin : script_of_text (codes "latn") ≡ script 0x4C61746E
  pub simplified_han : script_of_text (codes "HANS") ≡ script 0x48616E69
  pub unknown : script_of_text (codes "1234") ≡ script 0x5A7A7A7A
  pub no_script : script_of_text (codes "") ≡ None
  pub capital_left : direction_of_text (codes "LTR") ≡ LeftToRight
  pub whole_alphabet : language_of_text (codes "AZ_az-09") ≡ Some (codes "az-az-09")
  -- the bytes beside A, Z, a, z, 0 and 9
  pub beside_the_alphabet : map (λ c. language_of_text (c ∷ [])) (64 ∷ 91 ∷ 96 ∷ 123 ∷ 47 ∷ 58 ∷ []) ≡ None ∷ None ∷ None ∷ None ∷ None ∷ None ∷ []
  pub small_top : direction_of_text (codes "ttb") ≡ TopToBottom
  pub capital_right : direction_of_text (codes "Rtl") ≡ RightToLeft
  pub capital_bottom : direction_of_text (codes "BTT") ≡ BottomToTop

pub worked_names : WorkedNames
worked_names = record {
  left = refl;
  right = refl;
  top = refl;
  bottom = refl;
  no_direction = refl;
  no_text = refl;
  english = refl;
  persian = refl;
  as_it_is = refl;
  with_digits = refl;
  no_name = refl;
  no_language = refl;
  four_bytes = refl;
  filled_up = refl;
  cut_off = refl;
  no_tag = refl;
  latin = refl;
  simplified_han = refl;
  unknown = refl;
  no_script = refl;
  capital_left = refl;
  whole_alphabet = refl;
  beside_the_alphabet = refl;
  small_top = refl;
  capital_right = refl;
  capital_bottom = refl;
}

-- glyph 2 has the name `A` and a box; no other glyph has either
abbrev pub form : ℕ → Form
form flags = record {
  flags = flags;
  name = λ glyph. if glyph == 2 then Some (codes "A") else None;
  extents = λ glyph. if glyph.0 == 2
      then Some (record { x_bearing = pos 10; y_bearing = pos 700; width = pos 580; height = negsuc 699 })
      else None;
}

abbrev pub glyph : ℕ → ℕ → ℕ → Item
glyph number cluster mask = record (new_item 0 cluster) { glyph_id = number; mask = mask }

abbrev pub place : ℤ → ℤ → ℤ → ℤ → GlyphPosition
place x_advance y_advance x_offset y_offset = record {
  x_advance = x_advance;
  y_advance = y_advance;
  x_offset = x_offset;
  y_offset = y_offset;
  attach_chain = pos 0;
  attach_type = 0;
}

-- glyph 2 of cluster 0, 600 wide; glyph 30 of cluster 1, moved to (-50, 7), unsafe to break (1) with a bit of a feature
-- (8)
abbrev pub text_of : ℕ → List ℕ
text_of flags = serialized (form flags) (glyph 2 0 0 ∷ glyph 30 1 9 ∷ [])
    (place (pos 600) (pos 0) (pos 0) (pos 0) ∷ place (pos 0) (negsuc 999) (negsuc 49) (pos 7) ∷ [])

pub record WorkedTexts : Type 0 where
  pub empty : serialized (form 0) [] [] ≡ []
  pub whole : text_of 0 ≡ codes "[A=0+600|gid30=1@-50,7+0,-1000]"
  pub no_clusters : text_of 1 ≡ codes "[A+600|gid30@-50,7+0,-1000]"
  pub no_positions : text_of 2 ≡ codes "[A=0|gid30=1]"
  pub no_glyph_names : text_of 4 ≡ codes "[2=0+600|30=1@-50,7+0,-1000]"
  pub extents : text_of 8 ≡ codes "[A=0+600<10,700,580,-700>|gid30=1@-50,7+0,-1000<0,0,0,0>]"
  pub glyph_flags : text_of 16 ≡ codes "[A=0+600|gid30=1@-50,7+0,-1000#1]"
  -- the second glyph stands 600 from the start of the line
  pub no_advances : text_of 32 ≡ codes "[A=0|gid30=1@550,7]"
  pub flags_and_boxes : text_of 26 ≡ codes "[A=0<10,700,580,-700>|gid30=1#1<0,0,0,0>]"
  pub glyphs_alone : text_of 7 ≡ codes "[2|30]"
  pub moved_across : serialized (form 0) (glyph 2 0 0 ∷ []) (place (pos 600) (pos 0) (negsuc 49) (pos 0) ∷ [])
      ≡ codes "[A=0@-50,0+600]"
  pub tatweel : serialized (form 16) (glyph 2 0 4 ∷ []) (place (pos 600) (pos 0) (pos 0) (pos 0) ∷ []) ≡ codes "[A=0+600#4]"
  pub pen_down : serialized (form 32) (glyph 2 0 0 ∷ glyph 2 1 0 ∷ [])
      (place (pos 0) (negsuc 999) (pos 0) (pos 0) ∷ place (pos 0) (pos 0) (pos 0) (pos 7) ∷ [])
      ≡ codes "[A=0|A=1@0,-993]"
  -- the same in two parts
  pub first_part : part_text Text (form 32) start (glyph 2 0 0 ∷ []) (place (pos 0) (negsuc 999) (pos 0) (pos 0) ∷ []) ≡ codes "[A=0"
  pub behind_the_first : spot_after 32 start (place (pos 0) (negsuc 999) (pos 0) (pos 0) ∷ [])
      ≡ record { first = false; pen = record { x = pos 0; y = negsuc 999 } }
  pub second_part : part_text Text (form 32) (record { first = false; pen = record { x = pos 0; y = negsuc 999 } })
      (glyph 2 1 0 ∷ []) (place (pos 0) (pos 0) (pos 0) (pos 7) ∷ []) ≡ codes "|A=1@0,-993"
  -- the pen stands still if advances are written
  pub behind_two : spot_after 0 start (place (pos 600) (pos 0) (pos 0) (pos 0) ∷ place (pos 0) (negsuc 999) (negsuc 49) (pos 7) ∷ [])
      ≡ record { first = false; pen = record { x = pos 0; y = pos 0 } }
  pub no_part : part_text Text (form 0) start [] [] ≡ []

pub worked_texts : WorkedTexts
unfolding digits ◌+ʷ◌ int_wrap
worked_texts = record {
  empty = refl;
  whole = refl;
  no_clusters = refl;
  no_positions = refl;
  no_glyph_names = refl;
  extents = refl;
  glyph_flags = refl;
  no_advances = refl;
  flags_and_boxes = refl;
  glyphs_alone = refl;
  moved_across = refl;
  tatweel = refl;
  pen_down = refl;
  first_part = refl;
  behind_the_first = refl;
  second_part = refl;
  behind_two = refl;
  no_part = refl;
}

pub record WorkedFontNames : Type 0 where
  pub letters : written (glyph_name left_out four_names 2) ≡ Some (98 ∷ 99 ∷ [])
  pub no_name : written (glyph_name left_out four_names 3) ≡ None
  -- U+00E9 in two bytes, and the first of them alone
  pub past_ascii : written (glyph_name (2 ∷ 0xC3 ∷ 0xA9 ∷ []) (0 ∷ 1 ∷ 0 ∷ 0 ∷ []) 0) ≡ Some (0xC3 ∷ 0xA9 ∷ [])
  pub no_text : written (glyph_name (1 ∷ 0xC3 ∷ []) (0 ∷ 1 ∷ 0 ∷ 0 ∷ []) 0) ≡ None
  -- 127 times a, and once more
  pub as_long_as_any : written (glyph_name (127 ∷ replicate 127 97) (0 ∷ 1 ∷ 0 ∷ 0 ∷ []) 0) ≡ Some (replicate 127 97)
  pub cut_off : written (glyph_name (128 ∷ replicate 128 97) (0 ∷ 1 ∷ 0 ∷ 0 ∷ []) 0) ≡ Some (replicate 127 97)
  -- U+00E9 behind 126 letters is cut in two; a lone byte that is cut off is not looked at
  pub cut_in_two : written (glyph_name (128 ∷ replicate 126 97 ++ 0xC3 ∷ 0xA9 ∷ []) (0 ∷ 1 ∷ 0 ∷ 0 ∷ []) 0) ≡ None
  pub no_text_behind : written (glyph_name (128 ∷ replicate 127 97 ++ 0xC3 ∷ []) (0 ∷ 1 ∷ 0 ∷ 0 ∷ []) 0) ≡ Some (replicate 127 97)

pub worked_font_names : WorkedFontNames
unfolding is_utf8 chars encode
worked_font_names = record {
  letters = refl;
  no_name = refl;
  past_ascii = refl;
  no_text = refl;
  as_long_as_any = refl;
  cut_off = refl;
  cut_in_two = refl;
  no_text_behind = refl;
}
