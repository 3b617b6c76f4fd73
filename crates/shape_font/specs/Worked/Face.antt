-- What a face returns, by what is known of its parts.
use Rattle.std.specs.Prelude.{◌≡◌, pos, negsuc, [], ◌∷◌, ◌++◌, Some, None, true, false, refl}
use Rattle.std.specs.Int.{int_wrap}
use Rattle.shape_common.specs.Wrapping.{◌+ʷ◌, neg_w}
use Rattle.shape_common.specs.declared.face.hb_glyph_extents_t.{hb_glyph_extents_t}
use Rattle.shape_font.specs.Bytes.{i16_of}
use Rattle.shape_font.specs.Face.{font_face, width_in, depth_in, origin_above, numbered, glyph_of, variant_of, h_advance_of, v_advance_of}
use Rattle.shape_font.specs.Face.{inked_extents, outlined_extents, extents_of, inked_of, origin_over, drawn_there}
use Rattle.shape_font.specs.LinesAt.{ascent_of, descent_of}
use Rattle.shape_font.specs.Cff.{drawn_extents}
use Rattle.bitmap_tables.specs.Tables.{bitmap_box}
use Rattle.cff_tables.specs.declared.font.CffFont.{CffFont}
use Rattle.charstrings.specs.Boxes.{glyph_box}
use Rattle.shape_font.specs.Metrics.{as_short, no_box, framed_of}
use Rattle.shape_font.specs.Worked.Glyphs.{words, short_list, header}
use Rattle.shape_font.specs.Worked.Lines.{origins, plain_line}
use Rattle.shape_font.specs.Worked.Searches.{three_selectors}
use Rattle.shape_font.specs.declared.face.FontFace.{FontFace}
use Rattle.shape_font.specs.declared.font_pages.FontPage.TheVariants.{Unicode}

pub record WorkedFace : Type 0 where
  pub glyph_0_is_none : numbered 0 ≡ None
  pub glyph_1 : numbered 1 ≡ Some (record { 0 = 1 })
  pub glyph_of_32_bits : numbered 65543 ≡ Some (record { 0 = 65543 })
  -- U+0041 has glyph 7, U+0042 glyph 9
  pub of_a_character : (f : FontFace) → f.font_page ≡ Unicode → f.cmap.now ≡ short_list
      → glyph_of f 0x41 ≡ Some (record { 0 = 7 })
  pub past_the_last_of_a_character : (f : FontFace) → f.glyph_count ≡ 9 → f.font_page ≡ Unicode → f.cmap.now ≡ short_list
      → glyph_of f 0x42 ≡ Some (record { 0 = 9 })
  pub as_alone : (f : FontFace) → f.font_page ≡ Unicode → f.cmap.now ≡ short_list → f.sequences.now ≡ three_selectors
      → variant_of f 0x41 0xFE00 ≡ Some (record { 0 = 7 })
  pub own : (f : FontFace) → f.sequences.now ≡ three_selectors → variant_of f 0x41 0xFE01 ≡ Some (record { 0 = 7 })
  pub own_past_the_last : (f : FontFace) → f.glyph_count ≡ 7 → f.sequences.now ≡ three_selectors
      → variant_of f 0x41 0xFE01 ≡ Some (record { 0 = 7 })
  pub no_variant : (f : FontFace) → f.sequences.now ≡ three_selectors → variant_of f 0x43 0xFE00 ≡ None
  pub advance : (f : FontFace) → f.coordinates.now ≡ [] → f.glyph_count ≡ 7 → f.h_count ≡ 2 → f.hmtx.now ≡ words (500 ∷ 50 ∷ 600 ∷ 60 ∷ [])
      → h_advance_of f (record { 0 = 0 }) ≡ pos 500
  pub shared_advance : (f : FontFace) → f.coordinates.now ≡ [] → f.glyph_count ≡ 7 → f.h_count ≡ 2 → f.hmtx.now ≡ words (500 ∷ 50 ∷ 600 ∷ 60 ∷ [])
      → h_advance_of f (record { 0 = 6 }) ≡ pos 600
  pub half_of_the_em : (f : FontFace) → f.glyph_count ≡ 7 → f.h_count ≡ 0 → f.units_per_em ≡ 1000
      → h_advance_of f (record { 0 = 6 }) ≡ pos 500
  pub no_advance_past_the_last : (f : FontFace) → f.glyph_count ≡ 7 → h_advance_of f (record { 0 = 7 }) ≡ pos 0
  pub down : (f : FontFace) → f.coordinates.now ≡ [] → f.glyph_count ≡ 7 → f.v_count ≡ 1 → f.vmtx.now ≡ words (900 ∷ 50 ∷ [])
      → v_advance_of f (record { 0 = 6 }) ≡ negsuc 899
  -- 65483 is -53, 32768 is the least number of 16 bits, and 32767 the greatest
  pub below_0 : (f : FontFace) → f.coordinates.now ≡ [] → f.glyph_count ≡ 7 → f.h_count ≡ 2 → f.hmtx.now ≡ words (65483 ∷ 50 ∷ 32768 ∷ 60 ∷ [])
      → h_advance_of f (record { 0 = 0 }) ≡ negsuc 52
  pub least : (f : FontFace) → f.coordinates.now ≡ [] → f.glyph_count ≡ 7 → f.h_count ≡ 2 → f.hmtx.now ≡ words (65483 ∷ 50 ∷ 32768 ∷ 60 ∷ [])
      → h_advance_of f (record { 0 = 6 }) ≡ negsuc 32767
  pub greatest : (f : FontFace) → f.coordinates.now ≡ [] → f.glyph_count ≡ 7 → f.h_count ≡ 1 → f.hmtx.now ≡ words (32767 ∷ 50 ∷ [])
      → h_advance_of f (record { 0 = 0 }) ≡ pos 32767
  pub up : (f : FontFace) → f.coordinates.now ≡ [] → f.glyph_count ≡ 7 → f.v_count ≡ 1 → f.vmtx.now ≡ words (65483 ∷ 50 ∷ [])
      → v_advance_of f (record { 0 = 6 }) ≡ pos 53
  -- the negative of the least number is itself
  pub least_down : (f : FontFace) → f.coordinates.now ≡ [] → f.glyph_count ≡ 7 → f.v_count ≡ 1 → f.vmtx.now ≡ words (32768 ∷ 50 ∷ [])
      → v_advance_of f (record { 0 = 6 }) ≡ negsuc 32767
  pub no_box_past_the_last : (f : FontFace) → f.outlines ≡ true → f.glyph_count ≡ 7 → inked_extents f (record { 0 = 7 }) ≡ None
  pub no_box_without_outlines : (f : FontFace) → f.outlines ≡ false → inked_extents f (record { 0 = 1 }) ≡ None
  pub box_of_the_last : (f : FontFace) → f.outlines ≡ true → f.glyph_count ≡ 7 → inked_extents f (record { 0 = 6 }) ≡ Some (inked_of f 6)
  pub first_by_its_outline : (f : FontFace) → f.coordinates.now ≡ [] → f.outlines ≡ true → f.glyph_count ≡ 7
      → outlined_extents f (record { 0 = 6 }) ≡ Some (inked_of f 6)
  pub without_a_charstring : (f : FontFace) → f.outlines ≡ false → f.cff ≡ None → outlined_extents f (record { 0 = 1 }) ≡ None
  pub past_the_last_outline : (f : FontFace) → f.outlines ≡ true → f.glyph_count ≡ 7 → f.cff ≡ None → outlined_extents f (record { 0 = 7 }) ≡ None
  pub drawn_without_outlines : (f : FontFace) → f.outlines ≡ false → outlined_extents f (record { 0 = 5 }) ≡ drawn_there f 5
  pub by_a_charstring : (c : CffFont) → glyph_box c.table.now c.layout 5
      ≡ Some (record { x_bearing = pos 10; y_bearing = pos 700; width = pos 490; height = negsuc 719 })
      → drawn_extents (Some c) 5 ≡ Some (record { x_bearing = pos 10; y_bearing = pos 700; width = pos 490; height = negsuc 719 })
  pub no_charstring : (c : CffFont) → glyph_box c.table.now c.layout 5 ≡ None → drawn_extents (Some c) 5 ≡ None
  pub bitmap_first : (f : FontFace) (b : hb_glyph_extents_t) → bitmap_box f.bitmaps f.glyph_count f.units_per_em 6 ≡ Some b
      → f.scale ≡ None → extents_of f (record { 0 = 6 }) ≡ Some b
  pub without_a_bitmap : (f : FontFace) → bitmap_box f.bitmaps f.glyph_count f.units_per_em 6 ≡ None
      → f.scale ≡ None → f.colr.now ≡ [] → f.coordinates.now ≡ [] → f.outlines ≡ true → f.glyph_count ≡ 7
      → extents_of f (record { 0 = 6 }) ≡ Some (inked_of f 6)
  pub half_of_an_odd_em : (f : FontFace) → f.glyph_count ≡ 7 → f.h_count ≡ 0 → f.units_per_em ≡ 1001
      → h_advance_of f (record { 0 = 6 }) ≡ pos 500
  -- glyph 1 has the bytes from 2 up to 12, and the bearing 60; glyph 2 has none
  pub box_by_short_places : (f : FontFace) → f.outlines ≡ true → f.glyph_count ≡ 7 → f.long_places ≡ false
      → f.loca.now ≡ words (0 ∷ 1 ∷ 6 ∷ 6 ∷ []) → f.glyf.now ≡ words (9 ∷ []) ++ header
      → f.h_count ≡ 1 → f.hmtx.now ≡ words (500 ∷ 50 ∷ 60 ∷ [])
      → inked_extents f (record { 0 = 1 }) ≡ Some (record { x_bearing = pos 60; y_bearing = pos 700; width = pos 290; height = negsuc 719 })
  pub empty_box : (f : FontFace) → f.outlines ≡ true → f.glyph_count ≡ 7 → f.long_places ≡ false
      → f.loca.now ≡ words (0 ∷ 1 ∷ 6 ∷ 6 ∷ []) → f.glyf.now ≡ words (9 ∷ []) ++ header
      → f.h_count ≡ 1 → f.hmtx.now ≡ words (500 ∷ 50 ∷ 60 ∷ [])
      → inked_extents f (record { 0 = 2 }) ≡ Some no_box
  pub box_by_long_places : (f : FontFace) → f.outlines ≡ true → f.glyph_count ≡ 7 → f.long_places ≡ true
      → f.loca.now ≡ words (0 ∷ 2 ∷ 0 ∷ 12 ∷ []) → f.glyf.now ≡ words (9 ∷ []) ++ header
      → f.h_count ≡ 1 → f.hmtx.now ≡ words (500 ∷ 50 ∷ 60 ∷ [])
      → inked_extents f (record { 0 = 0 }) ≡ Some (record { x_bearing = pos 50; y_bearing = pos 700; width = pos 290; height = negsuc 719 })

pub worked_face : WorkedFace
unfolding width_in depth_in inked_of framed_of i16_of as_short neg_w int_wrap
worked_face = record {
  glyph_0_is_none = refl;
  glyph_1 = refl;
  glyph_of_32_bits = refl;
  of_a_character = λ f s c. rw (s, c) refl;
  past_the_last_of_a_character = λ f e s c. rw (s, c) refl;
  as_alone = λ f s c q. rw (s, c, q) refl;
  own = λ f q. rw q refl;
  own_past_the_last = λ f e q. rw q refl;
  no_variant = λ f q. rw q refl;
  advance = λ f c e h t. rw (c, e, h, t) refl;
  shared_advance = λ f c e h t. rw (c, e, h, t) refl;
  half_of_the_em = λ f e h u. rw (e, h, u) refl;
  no_advance_past_the_last = λ f e. rw e refl;
  down = λ f c e h t. rw (c, e, h, t) refl;
  below_0 = λ f c e h t. rw (c, e, h, t) refl;
  least = λ f c e h t. rw (c, e, h, t) refl;
  greatest = λ f c e h t. rw (c, e, h, t) refl;
  up = λ f c e h t. rw (c, e, h, t) refl;
  least_down = λ f c e h t. rw (c, e, h, t) refl;
  no_box_past_the_last = λ f o e. rw (o, e) refl;
  no_box_without_outlines = λ f o. rw o refl;
  box_of_the_last = λ f o e. rw (o, e) refl;
  first_by_its_outline = λ f c o e. rw (c, o, e) refl;
  without_a_charstring = λ f o c. rw (o, c) refl;
  past_the_last_outline = λ f o e c. rw (o, e, c) refl;
  drawn_without_outlines = λ f o. rw o refl;
  by_a_charstring = λ c drawn. rw drawn refl;
  no_charstring = λ c none. rw none refl;
  bitmap_first = λ f b found sizeless. rw (found, extents_of) (rw sizeless refl);
  without_a_bitmap = λ f none sizeless colorless c o e. rw (none, extents_of) (rw (sizeless, colorless, c, o, e) refl);
  half_of_an_odd_em = λ f e h u. rw (e, h, u) refl;
  box_by_short_places = λ f o e p l g h t. rw (o, e, p, l, g, h, t) refl;
  empty_box = λ f o e p l g h t. rw (o, e, p, l) refl;
  box_by_long_places = λ f o e p l g h t. rw (o, e, p, l, g, h, t) refl;
}

-- a box 705 high, whose upper side is at 700
abbrev pub box : hb_glyph_extents_t
box = record { x_bearing = pos 20; y_bearing = pos 700; width = pos 300; height = negsuc 704 }

-- advances downwards, origins, and which answer is which; the line is 800 up and 200 down
pub record WorkedOrigins : Type 0 where
  pub a_line_down : (f : FontFace) → f.scale ≡ None → f.coordinates.now ≡ [] → f.v_count ≡ 0 → f.os2.now ≡ [] → f.hhea.now ≡ plain_line
      → (font_face f).v_advance (record { 0 = 6 }) ≡ negsuc 999
  pub not_down_past_the_last : (f : FontFace) → f.scale ≡ None → f.v_count ≡ 1 → f.glyph_count ≡ 7
      → (font_face f).v_advance (record { 0 = 7 }) ≡ pos 0
  -- towards 0
  pub half_below_0 : (f : FontFace) → f.scale ≡ None → f.coordinates.now ≡ [] → f.glyph_count ≡ 7 → f.h_count ≡ 1 → f.hmtx.now ≡ words (65483 ∷ 50 ∷ [])
      → (font_face f).h_origin (record { 0 = 6 }) ≡ negsuc 25
  pub half_of_the_advance : (f : FontFace) → f.scale ≡ None → f.coordinates.now ≡ [] → f.glyph_count ≡ 7 → f.h_count ≡ 1 → f.hmtx.now ≡ words (501 ∷ 50 ∷ [])
      → (font_face f).h_origin (record { 0 = 6 }) ≡ pos 250
  pub as_listed : (f : FontFace) → f.scale ≡ None → f.coordinates.now ≡ [] → f.vorg.now ≡ origins 2 → (font_face f).v_origin (record { 0 = 3 }) ≡ pos 900
  pub by_the_box : (f : FontFace) → f.scale ≡ None → f.coordinates.now ≡ [] → f.vorg.now ≡ [] → f.outlines ≡ true → f.glyph_count ≡ 7
      → (font_face f).v_origin (record { 0 = 6 }) ≡ origin_over f 6 (inked_of f 6)
  pub without_a_box : (f : FontFace) → f.scale ≡ None → f.coordinates.now ≡ [] → f.vorg.now ≡ [] → f.outlines ≡ false → f.os2.now ≡ [] → f.hhea.now ≡ plain_line
      → (font_face f).v_origin (record { 0 = 6 }) ≡ pos 800
  pub by_its_bearing : (f : FontFace) → f.v_count ≡ 1 → f.vmtx.now ≡ words (900 ∷ 50 ∷ 60 ∷ []) → origin_over f 1 box ≡ pos 760
  -- 295 is left, and half of that is 147
  pub in_the_middle : (f : FontFace) → f.coordinates.now ≡ [] → f.v_count ≡ 0 → f.os2.now ≡ [] → f.hhea.now ≡ plain_line → origin_over f 1 box ≡ pos 847
  pub glyph : (f : FontFace) → f.font_page ≡ Unicode → f.cmap.now ≡ short_list
      → (font_face f).nominal_glyph 0x41 ≡ Some (record { 0 = 7 })
  pub variant : (f : FontFace) → f.sequences.now ≡ three_selectors
      → (font_face f).variation_glyph 0x41 0xFE01 ≡ Some (record { 0 = 7 })
  pub advance : (f : FontFace) → f.scale ≡ None → f.coordinates.now ≡ [] → f.glyph_count ≡ 7 → f.h_count ≡ 1 → f.hmtx.now ≡ words (501 ∷ 50 ∷ [])
      → (font_face f).h_advance (record { 0 = 6 }) ≡ pos 501
  pub no_box : (f : FontFace) → bitmap_box f.bitmaps f.glyph_count f.units_per_em 1 ≡ None → f.colr.now ≡ [] → f.outlines ≡ false → f.cff ≡ None
      → (font_face f).extents (record { 0 = 1 }) ≡ None
  pub em : (f : FontFace) → f.units_per_em ≡ 2048 → (font_face f).units_per_em ≡ 2048
  -- 1005 high: -5 is left, and half of that is -3
  pub higher_than_the_line : (f : FontFace) → f.coordinates.now ≡ [] → f.v_count ≡ 0 → f.os2.now ≡ [] → f.hhea.now ≡ plain_line
      → origin_over f 1 (record box { height = negsuc 1004 }) ≡ pos 697
  pub listed_by_a_minor_version : (f : FontFace) → f.scale ≡ None → f.coordinates.now ≡ [] → f.vorg.now ≡ words (0 ∷ 1 ∷ 880 ∷ 0 ∷ [])
      → (font_face f).v_origin (record { 0 = 3 }) ≡ pos 880
  pub tables : (f : FontFace) → (font_face f).tables ≡ f.tables

pub worked_origins : WorkedOrigins
unfolding ascent_of descent_of width_in depth_in origin_above i16_of as_short ◌+ʷ◌ int_wrap
worked_origins = record {
  a_line_down = λ f sizeless c v o h. rw (sizeless, c, v, o, h) refl;
  not_down_past_the_last = λ f sizeless v e. rw (sizeless, v, e) refl;
  half_below_0 = λ f sizeless c e h t. rw (sizeless, c, e, h, t) refl;
  half_of_the_advance = λ f sizeless c e h t. rw (sizeless, c, e, h, t) refl;
  as_listed = λ f sizeless c v. rw (sizeless, c, v) refl;
  by_the_box = λ f sizeless c v o e. rw (sizeless, c, v, o, e) refl;
  without_a_box = λ f sizeless c v o s h. rw (sizeless, c, v, o, s, h) refl;
  by_its_bearing = λ f v t. rw (v, t) refl;
  in_the_middle = λ f c v o h. rw (c, v, o, h) refl;
  glyph = λ f s c. rw (s, c) refl;
  variant = λ f q. rw q refl;
  advance = λ f sizeless c e h t. rw (sizeless, c, e, h, t) refl;
  no_box = λ f none colorless o c. rw (none, extents_of) (rw (colorless, o, c) refl);
  em = λ f u. u;
  higher_than_the_line = λ f c v o h. rw (c, v, o, h) refl;
  listed_by_a_minor_version = λ f sizeless c v. rw (sizeless, c, v) refl;
  tables = λ f. refl;
}
