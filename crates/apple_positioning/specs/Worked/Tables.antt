-- Lines that a whole table `kerx` kerns, on tables of 16-bit words that were read by hand.
use Rattle.std.specs.Prelude.{◌≡◌, ℕ, ℤ, pos, negsuc, List, [], ◌∷◌, ◌++◌, map, None, refl}
use Rattle.std.specs.Int.{int_wrap}
use Rattle.kern_table.specs.Worked.Kern.{along, line, masks, on, still}
use Rattle.shape_buffer.specs.PositionWalks.{positions_mapped}
use Rattle.shape_common.specs.Wrapping.{◌+ʷ◌, ◌-ʷ◌}
use Rattle.shape_common.specs.declared.positions.GlyphPosition.{GlyphPosition}
use Rattle.shape_common.specs.declared.text_types.Direction.{Direction}
use Rattle.shape_common.specs.declared.text_types.Direction.TheVariants.{LeftToRight, RightToLeft, TopToBottom}
use Rattle.shape_font.specs.Bytes.{i16_of}
use Rattle.shape_font.specs.Metrics.{as_short}
use Rattle.shape_font.specs.Worked.Glyphs.{words}
use Rattle.shape_items.specs.Buffer.{Buffer}
use Rattle.apple_positioning.specs.Pairs.{kerned}
use Rattle.apple_positioning.specs.Subtables.{acted, acted_in_order}
use Rattle.apple_positioning.specs.Tables.{Font, finished, table_run}
use Rattle.apple_positioning.specs.Values.{kerning_of}
use Rattle.apple_positioning.specs.Worked.Lines.{pairs_of, rises, shifts}

-- a table with so many subtables, in a font of 9 glyphs, where kerning is on by bit 4
abbrev pub font : ℕ → List ℕ → Font
font count subtables =
    record { kerx = words (2 ∷ 0 ∷ 0 ∷ count ∷ []) ++ subtables; ankr = []; glyphs = 9; scale = None; mask = 16 }

-- subtables by their coverage: glyphs 2 and 3 by -50, 3 and 2 by -35
abbrev pub one : ℕ → Font
one coverage = font 1 (pairs_of coverage)

abbrev pub both : ℕ → ℕ → Font
both first second = font 2 (pairs_of first ++ pairs_of second)

-- a line of glyphs 2 and 3, where so much may be spent
abbrev pub spending : ℕ → Font → Direction → Buffer
spending left f direction = table_run f (record (line direction (on 2 0 ∷ on 3 1 ∷ [])) { max_ops = left })

abbrev pub run : Font → Direction → Buffer
run f direction = spending 100 f direction

-- which glyphs each one follows, and how
abbrev pub links : Buffer → List (ℤ × ℕ)
links b = map (λ (p : GlyphPosition). (p.attach_chain, p.attach_type)) b.positions

abbrev pub asking : Font → Buffer
asking f = table_run f (record (line LeftToRight (on 2 0 ∷ on 3 1 ∷ [])) { max_ops = 100; flags = record { 0 = 64 } })

pub record WorkedTables : Type 0 where
  pub one_subtable : along (run (one 0) LeftToRight) ≡ (pos 575, pos 0) ∷ (pos 575, negsuc 24) ∷ []
  pub two_subtables : along (run (both 0 0) LeftToRight) ≡ (pos 550, pos 0) ∷ (pos 550, negsuc 49) ∷ []
  pub of_this_kind_alone : along (run (both 0 0x8000) LeftToRight) ≡ (pos 575, pos 0) ∷ (pos 575, negsuc 24) ∷ []
  pub after_one_of_the_other_kind : along (run (both 0x8000 0) LeftToRight) ≡ (pos 575, pos 0) ∷ (pos 575, negsuc 24) ∷ []
  -- 3 stands at the left
  pub backward_line : along (run (one 0) RightToLeft) ≡ (pos 583, negsuc 16) ∷ (pos 582, pos 0) ∷ []
  pub variations_too : along (run (one 0x2000) LeftToRight) ≡ (pos 575, pos 0) ∷ (pos 575, negsuc 24) ∷ []
  pub off_everywhere : along (run (record (one 0) { mask = 0 }) LeftToRight) ≡ still ∷ still ∷ []
  pub no_table : along (run (record (one 0) { kerx = [] }) LeftToRight) ≡ still ∷ still ∷ []
  -- 16 for each glyph, and for each subtable
  pub charged : (run (both 0 0x8000) LeftToRight).max_ops ≡ 36
  pub too_costly : along (spending 63 (both 0 0) LeftToRight) ≡ (pos 575, pos 0) ∷ (pos 575, negsuc 24) ∷ []
  pub nothing_left : (spending 63 (both 0 0) LeftToRight).max_ops ≡ 0
  pub just_enough : along (spending 64 (both 0 0) LeftToRight) ≡ (pos 550, pos 0) ∷ (pos 550, negsuc 49) ∷ []
  -- whatever the table has
  pub concat_asked : masks (asking (one 0x8000)) ≡ 18 ∷ 18 ∷ []
  pub concat_of_no_table : masks (asking (record (one 0) { kerx = [] })) ≡ 18 ∷ 18 ∷ []

pub record WorkedLinks : Type 0 where
  pub each_follows : links (run (one 0x4000) LeftToRight) ≡ (negsuc 0, 2) ∷ (negsuc 0, 2) ∷ []
  pub each_follows_backward : links (run (one 0x4000) RightToLeft) ≡ (pos 1, 2) ∷ (pos 1, 2) ∷ []
  pub rising : rises (run (one 0x4000) LeftToRight) ≡ pos 0 ∷ negsuc 49 ∷ []
  pub beside : shifts (run (one 0xC000) TopToBottom) ≡ pos 0 ∷ negsuc 49 ∷ []
  pub each_follows_down : links (run (one 0xC000) TopToBottom) ≡ (negsuc 0, 2) ∷ (negsuc 0, 2) ∷ []
  pub after_one_along : rises (run (both 0 0x4000) LeftToRight) ≡ pos 0 ∷ negsuc 49 ∷ []
  pub along_beside_across : along (run (both 0x4000 0) LeftToRight) ≡ (pos 575, pos 0) ∷ (pos 575, negsuc 24) ∷ []
  pub along_alone : links (run (one 0) LeftToRight) ≡ (pos 0, 0) ∷ (pos 0, 0) ∷ []
  pub of_the_other_kind : links (run (one 0xC000) LeftToRight) ≡ (pos 0, 0) ∷ (pos 0, 0) ∷ []
  -- processed from the last to the first: passed over, and nothing is moved
  pub nothing_moved : links (run (one 0x5000) LeftToRight) ≡ (pos 0, 2) ∷ (pos 0, 2) ∷ []
  pub off_everywhere : links (run (record (one 0x4000) { mask = 0 }) LeftToRight) ≡ (pos 0, 2) ∷ (pos 0, 2) ∷ []

pub worked_tables : WorkedTables
unfolding table_run finished positions_mapped acted acted_in_order kerned kerning_of as_short i16_of ◌+ʷ◌ ◌-ʷ◌ int_wrap
worked_tables = record {
  one_subtable = refl;
  two_subtables = refl;
  of_this_kind_alone = refl;
  after_one_of_the_other_kind = refl;
  backward_line = refl;
  variations_too = refl;
  off_everywhere = refl;
  no_table = refl;
  charged = refl;
  too_costly = refl;
  nothing_left = refl;
  just_enough = refl;
  concat_asked = refl;
  concat_of_no_table = refl;
}

pub worked_links : WorkedLinks
unfolding table_run finished positions_mapped acted acted_in_order kerned kerning_of as_short i16_of ◌+ʷ◌ ◌-ʷ◌ int_wrap
worked_links = record {
  each_follows = refl;
  each_follows_backward = refl;
  rising = refl;
  beside = refl;
  each_follows_down = refl;
  after_one_along = refl;
  along_beside_across = refl;
  along_alone = refl;
  of_the_other_kind = refl;
  nothing_moved = refl;
  off_everywhere = refl;
}
