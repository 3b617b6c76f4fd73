-- The lines that are printed for a text, written by hand from what each part of them says.
use Rattle.std.specs.Prelude.{◌≡◌, ℕ, ℤ, pos, negsuc, List, [], ◌∷◌, ◌++◌, codes, refl}
use Rattle.std.specs.Fmt.{digits, padded_integral, char_count}
use Rattle.shape_items.specs.Items.{Item, new_item}
use Rattle.shape_common.specs.declared.positions.GlyphPosition.{GlyphPosition}
use Rattle.shape_sessions.specs.Printing.{items_line, glyphs_line, text_line}

-- a line of this text
abbrev pub line : List ℕ → List ℕ
line text = text ++ 10 ∷ []

-- a glyph in a cluster; its character is no part of a line of glyphs
abbrev pub glyph : ℕ → ℕ → ℕ → Item
glyph number cluster mask = record (new_item 0x61 cluster) { glyph_id = number; mask = mask }

abbrev pub place : ℤ → ℤ → ℤ → ℤ → GlyphPosition
place x_advance y_advance x_offset y_offset = record {
  x_advance = x_advance;
  y_advance = y_advance;
  x_offset = x_offset;
  y_offset = y_offset;
  attach_chain = pos 0;
  attach_type = 0;
}

-- 600 to the right; and 1000 down, moved by -50 and 7
abbrev pub across : GlyphPosition
across = place (pos 600) (pos 0) (pos 0) (pos 0)

abbrev pub down : GlyphPosition
down = place (pos 0) (negsuc 999) (negsuc 49) (pos 7)

pub record WorkedPrinting : Type 0 where
  pub no_items : items_line (codes "normal") [] ≡ line (codes "normal")
  -- four digits at least, and letters for 10 to 15
  pub four_digits : items_line (codes "normal") (new_item 0x61 0 ∷ new_item 0x1EA4 12 ∷ [])
      ≡ line (codes "normal 0061@0 1EA4@12")
  pub fewer_and_more_digits : items_line (codes "prepared") (new_item 0 3 ∷ new_item 0x10FFFF 4294967295 ∷ [])
      ≡ line (codes "prepared 0000@3 10FFFF@4294967295")
  -- the character, whatever glyph the item has
  pub characters_of_items : items_line (codes "normal") (glyph 30 1 9 ∷ []) ≡ line (codes "normal 0061@1")
  pub no_glyphs : glyphs_line [] [] ≡ line (codes "glyphs")
  pub glyphs : glyphs_line (glyph 2 0 0 ∷ glyph 30 1 1 ∷ []) (across ∷ down ∷ [])
      ≡ line (codes "glyphs 2@0(600,0,0,0)/0 30@1(0,-1000,-50,7)/1")
  -- of a mask of all 32 bits the three flags, and nothing of that of a feature (8)
  pub flags_alone : glyphs_line (glyph 2 0 4294967295 ∷ glyph 3 0 8 ∷ []) (across ∷ across ∷ [])
      ≡ line (codes "glyphs 2@0(600,0,0,0)/7 3@0(600,0,0,0)/0")
  -- as many as there are of both
  pub fewer_positions : glyphs_line (glyph 2 0 0 ∷ glyph 3 1 0 ∷ []) (across ∷ [])
      ≡ line (codes "glyphs 2@0(600,0,0,0)/0")
  pub fewer_glyphs : glyphs_line (glyph 2 0 0 ∷ []) (across ∷ down ∷ []) ≡ line (codes "glyphs 2@0(600,0,0,0)/0")
  pub empty_line : text_line 4 4 [] ≡ line (codes "line 4-4")
  pub glyphs_of_line : text_line 0 12 (glyph 2 0 0 ∷ glyph 65535 7 1 ∷ []) ≡ line (codes "line 0-12 2@0 65535@7")

pub worked_printing : WorkedPrinting
unfolding digits padded_integral char_count
worked_printing = record {
  no_items = refl;
  four_digits = refl;
  fewer_and_more_digits = refl;
  characters_of_items = refl;
  no_glyphs = refl;
  glyphs = refl;
  flags_alone = refl;
  fewer_positions = refl;
  fewer_glyphs = refl;
  empty_line = refl;
  glyphs_of_line = refl;
}
