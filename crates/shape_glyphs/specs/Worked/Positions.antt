-- Positions, computed on small cases whose answers are worked out by hand.
use Rattle.std.specs.Prelude.{◌≡◌, ◌==◌, ◌+◌, ℕ, ℤ, pos, neg_ℤ, Bool, true, false, Option, Some, None, List, [], ◌∷◌, map, if◌then◌else◌, refl}
use Rattle.std.specs.Int.{int_wrap}
use Rattle.shape_items.specs.Buffer.{Buffer, new_buffer}
use Rattle.shape_common.specs.Face.{FaceMeaning}
use Rattle.shape_items.specs.Items.{Item, new_item}
use Rattle.shape_buffer.specs.Layout.{LookupMeaning}
use Rattle.shape_buffer.specs.NoLookups.{no_lookups}
use Rattle.shape_buffer.specs.PositionWalks.{positions_mapped}
use Rattle.shape_common.specs.Positions.{zero_position}
use Rattle.shape_common.specs.Wrapping.{◌+ʷ◌, ◌-ʷ◌}
use Rattle.shape_common.specs.declared.positions.GlyphPosition.{GlyphPosition}
use Rattle.shape_common.specs.declared.text_types.Direction.{Direction}
use Rattle.shape_common.specs.declared.text_types.Direction.TheVariants.{Invalid, LeftToRight, RightToLeft, TopToBottom, BottomToTop}
use Rattle.shape_common.specs.PlainUnicode.{plain_unicode}
use Rattle.shape_plan.specs.Worked.Faces.{bare_face}
use Rattle.shape_plan.specs.Worked.Plans.{constants_of}
use Rattle.shape_plan.specs.Shaper.{ShaperConstants, HookMeaning}
use Rattle.shape_plan.specs.Shapers.{no_hooks}
use Rattle.shape_plan.specs.Worked.Decisions.{no_decisions}
use Rattle.shape_plan.specs.declared.decisions.Decisions.{Decisions}
use Rattle.shape_glyphs.specs.Advances.{positions_cleared, advanced, advanced_position}
use Rattle.shape_glyphs.specs.Tables.{table_positioned, kerned, tracked, deleted_narrowed, deleted_removed}
use Rattle.shape_glyphs.specs.Reversal.{reversed}
use Rattle.shape_glyphs.specs.Zeroing.{marks_zeroed, zeroed_mark, zeroed_at}

-- the four values of a position
abbrev pub at : ℤ → ℤ → ℤ → ℤ → GlyphPosition
at x_advance y_advance x_offset y_offset =
    record zero_position { x_advance = x_advance; y_advance = y_advance; x_offset = x_offset; y_offset = y_offset }

-- an item with this glyph in this cluster
abbrev pub glyph_at : ℕ → ℕ → Item
glyph_at glyph cluster = record (new_item 0x61 cluster) { glyph_id = glyph }

abbrev pub with_class : ℕ → Item → Item
with_class class item = record item { properties = record item.properties { glyph_class = record { 0 = class } } }

-- one glyph of number 1 in a direction
abbrev one_glyph : Direction → GlyphPosition → Buffer
one_glyph direction position = record new_buffer { items = glyph_at 1 0 ∷ []; positions = position ∷ []; direction = direction }

-- glyph 1 has advance 600; glyph 3 is that of U+0020; the origin of vertical lines lies half the advance to the right
-- and an em above
abbrev pub face_of : ℕ → FaceMeaning
face_of units = record bare_face {
  nominal_glyph = λ c. if c == 0x20 then Some (record { 0 = 3 }) else None;
  h_advance = λ _. pos 600;
  v_advance = λ _. neg_ℤ (pos units);
  h_origin = λ _. pos 300;
  v_origin = λ _. pos units;
  units_per_em = units;
  x_scale = pos units;
  y_scale = pos units;
}

abbrev with_origins : ℤ → FaceMeaning
with_origins origin = record (face_of 1000) { h_origin = λ _. origin; v_origin = λ _. origin }

pub record AdvancesOfOneGlyph : Type 0 where
  pub cleared : (positions_cleared (one_glyph LeftToRight
      (record (at (pos 1) (pos 2) (pos 3) (pos 4)) { attach_chain = pos 5; attach_type = 6 }))).positions ≡ zero_position ∷ []
  pub rightward : (advanced (face_of 1000) (one_glyph LeftToRight zero_position)).positions ≡ at (pos 600) (pos 0) (pos 0) (pos 0) ∷ []
  pub leftward : (advanced (face_of 1000) (one_glyph RightToLeft zero_position)).positions ≡ at (pos 600) (pos 0) (pos 0) (pos 0) ∷ []
  pub downward : (advanced (face_of 1000) (one_glyph TopToBottom zero_position)).positions
      ≡ at (pos 0) (neg_ℤ (pos 1000)) (neg_ℤ (pos 300)) (neg_ℤ (pos 1000)) ∷ []
  pub upward : (advanced (face_of 1000) (one_glyph BottomToTop zero_position)).positions
      ≡ at (pos 0) (neg_ℤ (pos 1000)) (neg_ℤ (pos 300)) (neg_ℤ (pos 1000)) ∷ []
  pub directionless : (advanced (face_of 1000) (one_glyph Invalid zero_position)).positions
      ≡ at (pos 0) (neg_ℤ (pos 1000)) (neg_ℤ (pos 300)) (neg_ℤ (pos 1000)) ∷ []
  pub one_unit : advanced_position (face_of 1) false (glyph_at 1 0) zero_position
      ≡ at (pos 0) (neg_ℤ (pos 1)) (neg_ℤ (pos 300)) (neg_ℤ (pos 1))
  pub many_units : advanced_position (face_of 65535) false (glyph_at 1 0) zero_position
      ≡ at (pos 0) (neg_ℤ (pos 65535)) (neg_ℤ (pos 300)) (neg_ℤ (pos 65535))
  -- 0 less the least number wraps to the least number
  pub wraps : advanced_position (with_origins (neg_ℤ (pos 2147483648))) false (glyph_at 1 0) zero_position
      ≡ at (pos 0) (neg_ℤ (pos 1000)) (neg_ℤ (pos 2147483648)) (neg_ℤ (pos 2147483648))
  pub fits : advanced_position (with_origins (pos 2147483647)) false (glyph_at 1 0) zero_position
      ≡ at (pos 0) (neg_ℤ (pos 1000)) (neg_ℤ (pos 2147483647)) (neg_ℤ (pos 2147483647))

advances_of_one_glyph : AdvancesOfOneGlyph
unfolding advanced positions_mapped ◌-ʷ◌ int_wrap
advances_of_one_glyph = record {
  cleared = refl;
  rightward = refl;
  leftward = refl;
  downward = refl;
  upward = refl;
  directionless = refl;
  one_unit = refl;
  many_units = refl;
  wraps = refl;
  fits = refl;
}

-- a mark that advances by 100 and 50
abbrev one_mark : Direction → Buffer
one_mark direction =
    record new_buffer {
      items = with_class 8 (glyph_at 2 0) ∷ [];
      positions = at (pos 100) (pos 50) (pos 7) (pos 8)
          ∷ [];
      direction = direction;
    }

-- decisions of a plan: whether marks are zeroed and adjusted, by GPOS, by kerx, by kern, with morx
abbrev pub decided : Bool → Bool → Bool → Bool → Bool → Bool → Decisions
decided zero_marks adjust gpos kerx kern morx = record no_decisions {
  apply_morx = morx;
  apply_gpos = gpos;
  apply_kern = kern;
  apply_kerx = kerx;
  zero_marks = zero_marks;
  adjust_mark_positioning_when_zeroing = adjust;
}

-- a shaper without hooks that zeroes marks at this time
abbrev pub shaper_with : ℕ → ShaperConstants
shaper_with time = record constants_of { is_default = true; zero_width_marks = time; has_create_data = false }

abbrev zeroed_positions : ℕ → Bool → ℕ → Option HookMeaning → List GlyphPosition
zeroed_positions time zero_marks shapers_time hooks =
    (zeroed_at time (decided zero_marks false false false false false) (shaper_with shapers_time) hooks (one_mark LeftToRight)).positions

pub record ZeroingOfMarks : Type 0 where
  pub plain : (marks_zeroed false (one_mark LeftToRight)).positions ≡ at (pos 0) (pos 0) (pos 7) (pos 8) ∷ []
  pub forward : (marks_zeroed true (one_mark LeftToRight)).positions ≡ at (pos 0) (pos 0) (neg_ℤ (pos 93)) (neg_ℤ (pos 42)) ∷ []
  pub downward : (marks_zeroed true (one_mark TopToBottom)).positions ≡ at (pos 0) (pos 0) (neg_ℤ (pos 93)) (neg_ℤ (pos 42)) ∷ []
  pub backward : (marks_zeroed true (one_mark RightToLeft)).positions ≡ at (pos 0) (pos 0) (pos 7) (pos 8) ∷ []
  pub directionless : (marks_zeroed true (one_mark Invalid)).positions ≡ at (pos 0) (pos 0) (pos 7) (pos 8) ∷ []
  pub of_base : zeroed_mark true (with_class 2 (glyph_at 1 0)) (at (pos 600) (pos 0) (pos 0) (pos 0)) ≡ at (pos 600) (pos 0) (pos 0) (pos 0)
  pub of_ligature_mark : zeroed_mark false (with_class 12 (glyph_at 1 0)) (at (pos 600) (pos 0) (pos 0) (pos 0)) ≡ zero_position
  pub wraps : zeroed_mark true (with_class 8 (glyph_at 1 0)) (at (neg_ℤ (pos 2147483648)) (pos 0) (pos 0) (pos 0))
      ≡ at (pos 0) (pos 0) (neg_ℤ (pos 2147483648)) (pos 0)
  pub wraps_below : zeroed_mark true (with_class 8 (glyph_at 1 0)) (at (pos 1) (pos 0) (neg_ℤ (pos 2147483648)) (pos 0))
      ≡ at (pos 0) (pos 0) (pos 2147483647) (pos 0)

pub record TimesOfZeroing : Type 0 where
  pub early : zeroed_positions 1 true 1 (Some (no_hooks plain_unicode)) ≡ at (pos 0) (pos 0) (pos 7) (pos 8) ∷ []
  pub late : zeroed_positions 2 true 2 (Some (no_hooks plain_unicode)) ≡ at (pos 0) (pos 0) (pos 7) (pos 8) ∷ []
  pub late_not_early : zeroed_positions 1 true 2 (Some (no_hooks plain_unicode)) ≡ at (pos 100) (pos 50) (pos 7) (pos 8) ∷ []
  pub early_not_late : zeroed_positions 2 true 1 (Some (no_hooks plain_unicode)) ≡ at (pos 100) (pos 50) (pos 7) (pos 8) ∷ []
  pub never : zeroed_positions 2 true 0 (Some (no_hooks plain_unicode)) ≡ at (pos 100) (pos 50) (pos 7) (pos 8) ∷ []
  pub plan_says_no : zeroed_positions 2 false 2 (Some (no_hooks plain_unicode)) ≡ at (pos 100) (pos 50) (pos 7) (pos 8) ∷ []
  -- if the plan doesn't use the shaper, its time says nothing
  pub shaper_not_used : zeroed_positions 2 true 2 None ≡ at (pos 100) (pos 50) (pos 7) (pos 8) ∷ []

zeroing_of_marks : ZeroingOfMarks
unfolding marks_zeroed positions_mapped ◌-ʷ◌ int_wrap
zeroing_of_marks = record {
  plain = refl;
  forward = refl;
  downward = refl;
  backward = refl;
  directionless = refl;
  of_base = refl;
  of_ligature_mark = refl;
  wraps = refl;
  wraps_below = refl;
}

times_of_zeroing : TimesOfZeroing
unfolding marks_zeroed positions_mapped ◌-ʷ◌ int_wrap
times_of_zeroing =
    record {
      early = refl;
      late = refl;
      late_not_early = refl;
      early_not_late = refl;
      never = refl;
      plan_says_no = refl;
      shaper_not_used = refl;
    }

-- a table that adds to each horizontal advance
abbrev more_advance : ℤ → GlyphPosition → GlyphPosition
more_advance n position = record position { x_advance = position.x_advance +ʷ n }

abbrev adding : ℤ → Buffer → Buffer
adding n b = record b { positions = map (more_advance n) b.positions }

-- GPOS adds 1, kerx 10, kern 100, morx's calls 1000 and 10000, and trak what its mask is
abbrev adding_lookups : LookupMeaning
adding_lookups = record no_lookups {
  position = adding (pos 1);
  aat_position = λ _. adding (pos 10);
  kern = λ _. adding (pos 100);
  aat_track = λ mask. adding (pos mask);
  aat_zero_width_deleted = adding (pos 1000);
  aat_remove_deleted = adding (pos 10000);
}

abbrev by_tables : (LookupMeaning → Decisions → Buffer → Buffer) → Bool → Bool → Bool → Bool → List GlyphPosition
by_tables tables gpos kerx kern morx =
    (tables adding_lookups (decided false false gpos kerx kern morx)
    (one_glyph LeftToRight (at (pos 600) (pos 0) (pos 0) (pos 0)))).positions

-- tracking's mask is 7
abbrev by_tracking : Bool → List GlyphPosition
by_tracking trak =
    (tracked adding_lookups (record (decided false false true true true true) { apply_trak = trak; kern_mask = 3; trak_mask = 7 })
    (one_glyph LeftToRight (at (pos 600) (pos 0) (pos 0) (pos 0)))).positions

abbrev advances_by : ℕ → List GlyphPosition
advances_by n = at (pos n) (pos 0) (pos 0) (pos 0) ∷ []

pub record TablesOfAPlan : Type 0 where
  pub gpos_before_kerx : by_tables table_positioned true true false false ≡ advances_by 601
  pub gpos_alone : by_tables table_positioned true false false false ≡ advances_by 601
  pub kerx_alone : by_tables table_positioned false true false false ≡ advances_by 610
  pub neither : by_tables table_positioned false false true false ≡ advances_by 600
  pub kern : by_tables kerned true false true false ≡ advances_by 700
  pub no_kern : by_tables kerned true true false false ≡ advances_by 600
  pub track : by_tracking true ≡ advances_by 607
  pub no_track : by_tracking false ≡ advances_by 600
  pub narrowed : by_tables deleted_narrowed true false false true ≡ advances_by 1600
  pub not_narrowed : by_tables deleted_narrowed true false false false ≡ advances_by 600
  pub removed : by_tables deleted_removed false false false true ≡ advances_by 10600
  pub removed_before : by_tables deleted_removed true false false true ≡ advances_by 600
  pub not_removed : by_tables deleted_removed false false false false ≡ advances_by 600

tables_of_a_plan : TablesOfAPlan
unfolding ◌+ʷ◌ int_wrap
tables_of_a_plan = record {
  gpos_before_kerx = refl;
  gpos_alone = refl;
  kerx_alone = refl;
  neither = refl;
  kern = refl;
  no_kern = refl;
  track = refl;
  no_track = refl;
  narrowed = refl;
  not_narrowed = refl;
  removed = refl;
  removed_before = refl;
  not_removed = refl;
}

-- two glyphs in a direction
abbrev two_glyphs : Direction → Buffer
two_glyphs direction = record new_buffer {
  items = glyph_at 1 0 ∷ glyph_at 2 1 ∷ [];
  positions = at (pos 10) (pos 0) (pos 0) (pos 0) ∷ at (pos 20) (pos 0) (pos 0) (pos 0) ∷ [];
  direction = direction;
}

abbrev two_reversed : Direction → Buffer
two_reversed direction = record new_buffer {
  items = glyph_at 2 1 ∷ glyph_at 1 0 ∷ [];
  positions = at (pos 20) (pos 0) (pos 0) (pos 0) ∷ at (pos 10) (pos 0) (pos 0) (pos 0) ∷ [];
  direction = direction;
}

pub record ReversalOfTwo : Type 0 where
  pub rightward : reversed (two_glyphs LeftToRight) ≡ two_glyphs LeftToRight
  pub leftward : reversed (two_glyphs RightToLeft) ≡ two_reversed RightToLeft
  pub downward : reversed (two_glyphs TopToBottom) ≡ two_glyphs TopToBottom
  pub upward : reversed (two_glyphs BottomToTop) ≡ two_reversed BottomToTop
  pub directionless : reversed (two_glyphs Invalid) ≡ two_glyphs Invalid

reversal_of_two : ReversalOfTwo
unfolding reversed
reversal_of_two = record { rightward = refl; leftward = refl; downward = refl; upward = refl; directionless = refl }

-- ---- glyphs that lookups left

-- each glyph's numbers are its own
abbrev numbered_face : FaceMeaning
numbered_face = record bare_face {
  h_advance = λ g. pos g.0;
  v_advance = λ g. neg_ℤ (pos (g.0 + 10));
  h_origin = λ g. pos (g.0 + 20);
  v_origin = λ g. pos (g.0 + 30);
}

-- glyph 7 in place of glyph 5, which is the character's
abbrev replaced : Item
replaced = record (glyph_at 7 0) { glyph_index = 5 }

pub record AdvancesOfReplacedGlyphs : Type 0 where
  pub across : advanced_position numbered_face true replaced zero_position ≡ at (pos 7) (pos 0) (pos 0) (pos 0)
  pub down : advanced_position numbered_face false replaced zero_position
      ≡ at (pos 0) (neg_ℤ (pos 17)) (neg_ℤ (pos 27)) (neg_ℤ (pos 37))

advances_of_replaced_glyphs : AdvancesOfReplacedGlyphs
unfolding ◌-ʷ◌ int_wrap
advances_of_replaced_glyphs = record { across = refl; down = refl }

pub record WorkedPositions : Type 0 where
  pub advances : AdvancesOfOneGlyph
  pub replaced : AdvancesOfReplacedGlyphs
  pub marks : ZeroingOfMarks
  pub times : TimesOfZeroing
  pub tables : TablesOfAPlan
  pub reversal : ReversalOfTwo

pub worked_positions : WorkedPositions
worked_positions = record {
  advances = advances_of_one_glyph;
  replaced = advances_of_replaced_glyphs;
  marks = zeroing_of_marks;
  times = times_of_zeroing;
  tables = tables_of_a_plan;
  reversal = reversal_of_two;
}
