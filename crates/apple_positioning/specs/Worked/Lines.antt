-- Lines that a subtable of pairs kerns, on subtables of 16-bit words that were read by hand.
use Rattle.std.specs.Prelude.{◌≡◌, ℕ, ℤ, pos, negsuc, List, [], ◌∷◌, map, Some, None, false, refl}
use Rattle.std.specs.Float.{fin}
use Rattle.std.specs.Int.{int_wrap}
use Rattle.font_bytes.specs.Bytes.{i32_of}
use Rattle.font_sizes.specs.Factors.{if_short, nearest}
use Rattle.font_sizes.specs.declared.scales.Scale.{Scale}
use Rattle.kern_table.specs.Worked.Kern.{along, down, ignorable, line, mark, masks, off, on, still}
use Rattle.shape_common.specs.Wrapping.{◌+ʷ◌, ◌-ʷ◌}
use Rattle.shape_common.specs.declared.positions.GlyphPosition.{GlyphPosition}
use Rattle.shape_common.specs.declared.text_types.Direction.{Direction}
use Rattle.shape_common.specs.declared.text_types.Direction.TheVariants.{LeftToRight, RightToLeft, TopToBottom, BottomToTop}
use Rattle.shape_font.specs.Bytes.{i16_of}
use Rattle.shape_font.specs.Metrics.{as_short}
use Rattle.shape_font.specs.Worked.Glyphs.{words}
use Rattle.shape_items.specs.Buffer.{Buffer}
use Rattle.shape_items.specs.Items.{Item}
use Rattle.apple_positioning.specs.Pairs.{kerned}
use Rattle.apple_positioning.specs.Runs.{Source}
use Rattle.apple_positioning.specs.Subtables.{acted, acted_in_order, subtable_run}
use Rattle.apple_positioning.specs.Values.{kerning_of}
use Rattle.apple_positioning.specs.Worked.Kerning.{long_rows}
use Rattle.apple_positioning.specs.declared.values.Layout.TheVariants.{Kerx}

-- format 0 with this coverage: glyphs 2 and 3 by -50, 3 and 2 by -35
abbrev pub pairs_of : ℕ → List ℕ
pairs_of coverage = words (0 ∷ 40 ∷ coverage ∷ 0 ∷ 0 ∷ 0 ∷ 0 ∷ 2 ∷ 0 ∷ 0 ∷ 0 ∷ 0 ∷ 0 ∷ 0 ∷ 2 ∷ 3 ∷ 0xFFCE ∷ 3 ∷ 2 ∷ 0xFFDD ∷ [])

-- a subtable of a font of 9 glyphs, where kerning is on by bit 4
abbrev pub plain : List ℕ → Source
plain bytes = record { layout = Kerx; bytes = bytes; ankr = []; glyphs = 9; scale = None; mask = 16 }

abbrev pub run : ℕ → Direction → List Item → Buffer
run coverage direction items = subtable_run (plain (pairs_of coverage)) (line direction items)

abbrev pub by_pairs : List Item → Buffer
by_pairs items = run 0 LeftToRight items

-- offsets across a horizontal line
abbrev pub rises : Buffer → List ℤ
rises b = map (λ (p : GlyphPosition). p.y_offset) b.positions

-- the same across a vertical line
abbrev pub shifts : Buffer → List ℤ
shifts b = map (λ (p : GlyphPosition). p.x_offset) b.positions

-- half of the size of the em square to the right, twice it upwards
abbrev pub half_as_wide : Scale
half_as_wide = record {
  size = record { x = pos 500; y = pos 2000 };
  across = record { factor = record { fixed = pos 32768 }; real = fin false 1 (negsuc 0) };
  up = record { factor = record { fixed = pos 131072 }; real = fin false 1 (pos 1) };
}

abbrev pub at_size : ℕ → Direction → Buffer
at_size coverage direction = subtable_run (record (plain (pairs_of coverage)) { scale = Some half_as_wide })
    (line direction (on 2 0 ∷ on 3 1 ∷ []))

pub record WorkedLines : Type 0 where
  pub half_to_each : along (by_pairs (on 2 0 ∷ on 3 1 ∷ [])) ≡ (pos 575, pos 0) ∷ (pos 575, negsuc 24) ∷ []
  -- -35 is -18 and -17
  pub half_downwards : along (by_pairs (on 3 0 ∷ on 2 1 ∷ [])) ≡ (pos 582, pos 0) ∷ (pos 583, negsuc 16) ∷ []
  pub each_pair : along (by_pairs (on 2 0 ∷ on 3 1 ∷ on 2 2 ∷ []))
      ≡ (pos 575, pos 0) ∷ (pos 557, negsuc 24) ∷ (pos 583, negsuc 16) ∷ []
  pub over_a_mark : along (by_pairs (on 2 0 ∷ mark 0 ∷ on 3 1 ∷ [])) ≡ (pos 575, pos 0) ∷ still ∷ (pos 575, negsuc 24) ∷ []
  pub over_an_ignorable : along (by_pairs (on 2 0 ∷ ignorable 0 ∷ on 3 1 ∷ [])) ≡ (pos 575, pos 0) ∷ still ∷ (pos 575, negsuc 24) ∷ []
  pub not_over_a_letter : along (by_pairs (on 2 0 ∷ on 8 0 ∷ on 3 1 ∷ [])) ≡ still ∷ still ∷ still ∷ []
  pub off_on_the_right : along (by_pairs (on 2 0 ∷ off 3 1 ∷ [])) ≡ still ∷ still ∷ []
  pub off_between : along (by_pairs (on 2 0 ∷ off 8 1 ∷ on 3 2 ∷ [])) ≡ still ∷ still ∷ still ∷ []
  pub unsafe_between : masks (by_pairs (on 2 0 ∷ mark 0 ∷ on 3 1 ∷ on 8 2 ∷ [])) ≡ 16 ∷ 16 ∷ 19 ∷ 16 ∷ []
  -- every glyph, if it is asked for
  pub concat_asked : masks (subtable_run (plain (pairs_of 0)) (record (line LeftToRight (on 8 0 ∷ on 8 1 ∷ [])) { flags = record { 0 = 64 } }))
      ≡ 18 ∷ 18 ∷ []
  -- from the left of the line: 3 stands there, before 2
  pub backward : along (run 0 RightToLeft (on 2 0 ∷ on 3 1 ∷ [])) ≡ (pos 583, negsuc 16) ∷ (pos 582, pos 0) ∷ []
  pub downwards : down (run 0x8000 TopToBottom (on 2 0 ∷ on 3 1 ∷ [])) ≡ (negsuc 24, pos 0) ∷ (negsuc 24, negsuc 24) ∷ []
  pub upwards : down (run 0x8000 BottomToTop (on 2 0 ∷ on 3 1 ∷ [])) ≡ (negsuc 16, negsuc 16) ∷ (negsuc 17, pos 0) ∷ []
  pub other_line : along (run 0 TopToBottom (on 2 0 ∷ on 3 1 ∷ [])) ≡ still ∷ still ∷ []
  pub vertical_alone : along (run 0x8000 LeftToRight (on 2 0 ∷ on 3 1 ∷ [])) ≡ still ∷ still ∷ []
  -- the glyphs are to be processed from the last to the first
  pub processed_backward : along (run 0x1000 LeftToRight (on 2 0 ∷ on 3 1 ∷ [])) ≡ still ∷ still ∷ []
  pub processed_backward_of_a_backward_line : along (run 0x1000 RightToLeft (on 2 0 ∷ on 3 1 ∷ [])) ≡ still ∷ still ∷ []
  pub other_bits : along (run 0x2FFF LeftToRight (on 2 0 ∷ on 3 1 ∷ [])) ≡ (pos 575, pos 0) ∷ (pos 575, negsuc 24) ∷ []
  pub off_everywhere : masks (subtable_run (record (plain (pairs_of 0)) { mask = 0 })
      (record (line LeftToRight (on 2 0 ∷ on 3 1 ∷ [])) { flags = record { 0 = 64 } })) ≡ 16 ∷ 16 ∷ []
  pub by_rows : along (subtable_run (plain long_rows) (line LeftToRight (on 3 0 ∷ on 2 1 ∷ []))) ≡ (pos 602, pos 0) ∷ (pos 603, pos 3) ∷ []
  -- 65536, of which 16 bits are scaled
  pub past_16_bits : along (subtable_run (plain long_rows) (line LeftToRight (on 2 0 ∷ on 3 1 ∷ []))) ≡ still ∷ still ∷ []
  pub past_16_bits_is_unsafe : masks (subtable_run (plain long_rows) (line LeftToRight (on 2 0 ∷ on 3 1 ∷ []))) ≡ 16 ∷ 19 ∷ []
  -- -25 is -13 and -12
  pub sized : along (at_size 0 LeftToRight) ≡ (pos 587, pos 0) ∷ (pos 588, negsuc 11) ∷ []
  pub sized_down : down (at_size 0x8000 TopToBottom) ≡ (negsuc 49, pos 0) ∷ (negsuc 49, negsuc 49) ∷ []

pub record WorkedRises : Type 0 where
  pub across : rises (run 0x4000 LeftToRight (on 2 0 ∷ on 3 1 ∷ on 2 2 ∷ [])) ≡ pos 0 ∷ negsuc 49 ∷ negsuc 34 ∷ []
  pub not_along : along (run 0x4000 LeftToRight (on 2 0 ∷ on 3 1 ∷ [])) ≡ still ∷ still ∷ []
  -- 3 stands at the left
  pub backward : rises (run 0x4000 RightToLeft (on 2 0 ∷ on 3 1 ∷ [])) ≡ negsuc 34 ∷ pos 0 ∷ []
  pub beside : shifts (run 0xC000 TopToBottom (on 2 0 ∷ on 3 1 ∷ [])) ≡ pos 0 ∷ negsuc 49 ∷ []
  pub unsafe : masks (run 0x4000 LeftToRight (on 2 0 ∷ on 3 1 ∷ [])) ≡ 16 ∷ 19 ∷ []
  -- flag 64, beside 32 for glyph flags
  pub noted : (run 0x4000 LeftToRight (on 2 0 ∷ on 3 1 ∷ [])).scratch_flags.0 ≡ 96
  pub nothing_to_note : (run 0x4000 LeftToRight (on 2 0 ∷ on 2 1 ∷ [])).scratch_flags.0 ≡ 0
  pub nothing_to_note_along : (run 0 LeftToRight (on 2 0 ∷ on 3 1 ∷ [])).scratch_flags.0 ≡ 32
  -- scaled as a number to the right
  pub sized : rises (at_size 0x4000 LeftToRight) ≡ pos 0 ∷ negsuc 24 ∷ []

pub worked_lines : WorkedLines
unfolding acted acted_in_order kerned kerning_of as_short nearest if_short i16_of i32_of ◌+ʷ◌ ◌-ʷ◌ int_wrap
worked_lines = record {
  half_to_each = refl;
  half_downwards = refl;
  each_pair = refl;
  over_a_mark = refl;
  over_an_ignorable = refl;
  not_over_a_letter = refl;
  off_on_the_right = refl;
  off_between = refl;
  unsafe_between = refl;
  concat_asked = refl;
  backward = refl;
  downwards = refl;
  upwards = refl;
  other_line = refl;
  vertical_alone = refl;
  processed_backward = refl;
  processed_backward_of_a_backward_line = refl;
  other_bits = refl;
  off_everywhere = refl;
  by_rows = refl;
  past_16_bits = refl;
  past_16_bits_is_unsafe = refl;
  sized = refl;
  sized_down = refl;
}

pub worked_rises : WorkedRises
unfolding acted acted_in_order kerned kerning_of as_short nearest if_short i16_of i32_of ◌+ʷ◌ ◌-ʷ◌ int_wrap
worked_rises = record {
  across = refl;
  not_along = refl;
  backward = refl;
  beside = refl;
  unsafe = refl;
  noted = refl;
  nothing_to_note = refl;
  nothing_to_note_along = refl;
  sized = refl;
}
