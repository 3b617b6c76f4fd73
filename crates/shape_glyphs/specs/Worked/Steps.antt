-- The order of the steps, computed on glyphs of which each step leaves a trace: a digit of an advance, a glyph or a
-- flag.
use Rattle.std.specs.Prelude.{◌≡◌, ◌*◌, ℕ, ℤ, pos, ◌+ℤ◌, ◌*ℤ◌, neg_ℤ, true, false, Some, List, [], ◌∷◌, map, drop, refl}
use Rattle.std.specs.Int.{int_wrap}
use Rattle.shape_items.specs.Buffer.{Buffer, new_buffer}
use Rattle.shape_items.specs.Flags.{flags_propagated}
use Rattle.shape_items.specs.Items.{Item}
use Rattle.shape_buffer.specs.Layout.{LookupMeaning}
use Rattle.shape_buffer.specs.NoLookups.{no_lookups}
use Rattle.shape_buffer.specs.Outcome.{run_steps}
use Rattle.shape_buffer.specs.PositionWalks.{positions_mapped}
use Rattle.shape_common.specs.Positions.{zero_position}
use Rattle.shape_buffer.specs.Walks.{items_mapped}
use Rattle.shape_common.specs.Wrapping.{◌-ʷ◌}
use Rattle.shape_common.specs.declared.positions.GlyphPosition.{GlyphPosition}
use Rattle.shape_common.specs.declared.text_types.Direction.TheVariants.{LeftToRight, RightToLeft}
use Rattle.shape_common.specs.PlainUnicode.{plain_unicode}
use Rattle.shape_plan.specs.Run.{Run}
use Rattle.shape_plan.specs.Shapers.{no_hooks}
use Rattle.shape_plan.specs.declared.decisions.Decisions.{Decisions}
use Rattle.shape_glyphs.specs.Advances.{advanced}
use Rattle.shape_glyphs.specs.Ignorables.{ignorables_zeroed, ignorables_hidden}
use Rattle.shape_glyphs.specs.Selectors.{selectors_replaced}
use Rattle.shape_glyphs.specs.Steps.{advance_steps, table_steps, show_steps, finish_steps}
use Rattle.shape_glyphs.specs.Reversal.{reversed}
use Rattle.shape_glyphs.specs.Worked.Glyphs.{ignored, selecting}
use Rattle.shape_glyphs.specs.Worked.Positions.{at, glyph_at, with_class, face_of, decided, shaper_with}
use Rattle.shape_glyphs.specs.Zeroing.{marks_zeroed}

-- one more digit at the end of each horizontal advance
abbrev pub one_more_digit : ℤ → GlyphPosition → GlyphPosition
one_more_digit n position = record position { x_advance = position.x_advance *ℤ pos 10 +ℤ n }

abbrev pub with_digit : ℤ → Buffer → Buffer
with_digit n b = record b { positions = map (one_more_digit n) b.positions }

-- the calls in the order in which they may come: 1, GPOS 2, then what the mask of kerning is and what that of tracking is, 4, 5, 6, and 7
abbrev pub counting : LookupMeaning
counting = record no_lookups {
  position_start = with_digit (pos 1);
  position = with_digit (pos 2);
  aat_position = λ mask. with_digit (pos mask);
  kern = λ mask. with_digit (pos mask);
  aat_track = λ mask. with_digit (pos mask);
  position_finish_advances = with_digit (pos 4);
  aat_zero_width_deleted = with_digit (pos 5);
  position_finish_offsets = with_digit (pos 6);
  aat_remove_deleted = with_digit (pos 7);
}

-- the hook adds 8, and writes ten times its glyph and a mask into each item
abbrev pub tenfold : Item → Item
tenfold item = record item { glyph_id = item.glyph_id * 10; mask = 9 }

abbrev pub hooked : Buffer → Buffer
hooked b = record (with_digit (pos 8) b) { items = map tenfold b.items }

-- the mask of kerning is 3, that of tracking 9
abbrev pub with_table_masks : Decisions → Decisions
with_table_masks decisions = record decisions { kern_mask = 3; trak_mask = 9 }

-- a run of these lookups and that hook, whose shaper zeroes marks at a time
abbrev pub counted : Run → LookupMeaning → ℕ → Decisions → Run
counted run lookups time decisions = record run {
  face = face_of 1000;
  lookups = lookups;
  constants = record (shaper_with time) { has_postprocess_glyphs = true };
  hooks = Some (record (no_hooks plain_unicode) { postprocess = hooked });
  decisions = with_table_masks decisions;
}

-- one glyph at a position of zeros, in a buffer in which all was seen, and whose not-found glyph is 9
abbrev pub seen : Item → Buffer
seen item = record new_buffer {
  items = item ∷ [];
  positions = zero_position ∷ [];
  direction = LeftToRight;
  scratch_flags = record { 0 = 63 };
  not_found_variation_selector_glyph = Some (record { 0 = 9 });
}

abbrev pub advances : Run → Item → List GlyphPosition
advances run item = (run_steps (table_steps run) (seen item)).positions

abbrev pub shown : Run → Item → Buffer
shown run item = run_steps (show_steps run) (seen item)

abbrev pub glyphs : Buffer → List ℕ
glyphs b = map (λ item. item.glyph_id) b.items

-- a table that takes out the first glyph, and two glyphs to the left
abbrev pub beheading : LookupMeaning
beheading = record no_lookups { aat_remove_deleted = λ b. record b { items = drop 1 b.items; positions = drop 1 b.positions } }

abbrev pub leftward : Buffer
leftward = record (seen (glyph_at 1 0)) {
  items = glyph_at 1 0 ∷ glyph_at 2 1 ∷ [];
  positions = at (pos 10) (pos 0) (pos 0) (pos 0) ∷ at (pos 20) (pos 0) (pos 0) (pos 0) ∷ [];
  direction = RightToLeft;
}

pub record OrderOfTables : Type 0 where
  pub begins_anew : (run : Run) → (run_steps (advance_steps (counted run counting 0 (decided false false false false false false)))
      (record (seen (glyph_at 1 0)) { positions = at (pos 1) (pos 2) (pos 3) (pos 4) ∷ [] })).positions
      ≡ at (pos 600) (pos 0) (pos 0) (pos 0) ∷ []
  pub all : (run : Run)
      → advances (counted run counting 0 (decided false false true false true true)) (glyph_at 1 0)
      ≡ at (pos 123456) (pos 0) (pos 0) (pos 0) ∷ []
  pub by_kerx : (run : Run)
      → advances (counted run counting 0 (decided false false false true false true)) (glyph_at 1 0)
      ≡ at (pos 13456) (pos 0) (pos 0) (pos 0) ∷ []
  pub with_tracking : (run : Run)
      → advances (counted run counting 0 (record (decided false false true false true true) { apply_trak = true })) (glyph_at 1 0)
      ≡ at (pos 1239456) (pos 0) (pos 0) (pos 0) ∷ []
  pub tracking_before_late : (run : Run)
      → advances (counted run counting 2 (record (decided true false true false true true) { apply_trak = true }))
      (with_class 8 (glyph_at 1 0)) ≡ at (pos 456) (pos 0) (pos 0) (pos 0) ∷ []
  pub early : (run : Run)
      → advances (counted run counting 1 (decided true false true false true true)) (with_class 8 (glyph_at 1 0))
      ≡ at (pos 23456) (pos 0) (pos 0) (pos 0) ∷ []
  pub late : (run : Run)
      → advances (counted run counting 2 (decided true false true false true true)) (with_class 8 (glyph_at 1 0))
      ≡ at (pos 456) (pos 0) (pos 0) (pos 0) ∷ []
  pub early_adjusted : (run : Run)
      → advances (counted run counting 1 (decided true true false false false false)) (with_class 8 (glyph_at 1 0))
      ≡ at (pos 46) (pos 0) (neg_ℤ (pos 1)) (pos 0) ∷ []
  pub late_adjusted : (run : Run)
      → advances (counted run counting 2 (decided true true false false true false)) (with_class 8 (glyph_at 1 0))
      ≡ at (pos 46) (pos 0) (neg_ℤ (pos 13)) (pos 0) ∷ []
  pub ignorable : (run : Run)
      → advances (counted run counting 0 (decided false false true false true true)) (ignored (glyph_at 1 0))
      ≡ at (pos 56) (pos 0) (pos 0) (pos 0) ∷ []

order_of_tables : OrderOfTables
unfolding positions_mapped advanced marks_zeroed ignorables_zeroed ◌-ʷ◌ int_wrap
order_of_tables = record {
  begins_anew = λ run. refl;
  all = λ run. refl;
  by_kerx = λ run. refl;
  with_tracking = λ run. refl;
  tracking_before_late = λ run. refl;
  early = λ run. refl;
  late = λ run. refl;
  early_adjusted = λ run. refl;
  late_adjusted = λ run. refl;
  ignorable = λ run. refl;
}

pub record OrderOfTheEnd : Type 0 where
  pub hook_after_deletion : (run : Run)
      → (shown (counted run counting 0 (decided false false false false false true)) (glyph_at 1 0)).positions
      ≡ at (pos 78) (pos 0) (pos 0) (pos 0) ∷ []
  pub selector_after_deletion : (run : Run)
      → (shown (counted run counting 0 (decided false false false false false true)) (selecting (glyph_at 1 0))).positions
      ≡ at (pos 8) (pos 0) (pos 0) (pos 0) ∷ []
  pub hook_after_selector : (run : Run)
      → glyphs (shown (counted run counting 0 (decided false false false false false false)) (selecting (glyph_at 1 0))) ≡ 90 ∷ []
  -- a selector that is ignorable too is hidden after the glyph that it took
  pub hiding_after_selector : (run : Run)
      → glyphs (shown (counted run counting 0 (decided false false false false false false)) (ignored (selecting (glyph_at 1 0)))) ≡ 30 ∷ []
  pub reversed_first : (run : Run)
      → glyphs (run_steps (finish_steps (counted run beheading 0 (decided false false false false false true))) leftward) ≡ 10 ∷ []
  -- the hook's mask 9 loses the bit that is no flag
  pub flags_last : (run : Run)
      → map (λ item. item.mask) (run_steps (finish_steps (counted run counting 0 (decided false false false false false false)))
      (seen (glyph_at 1 0))).items ≡ 1 ∷ []

order_of_the_end : OrderOfTheEnd
unfolding positions_mapped items_mapped reversed selectors_replaced ignorables_hidden flags_propagated
order_of_the_end = record {
  hook_after_deletion = λ run. refl;
  selector_after_deletion = λ run. refl;
  hook_after_selector = λ run. refl;
  hiding_after_selector = λ run. refl;
  reversed_first = λ run. refl;
  flags_last = λ run. refl;
}

pub record WorkedSteps : Type 0 where
  pub tables : OrderOfTables
  pub end : OrderOfTheEnd

pub worked_steps : WorkedSteps
worked_steps = record { tables = order_of_tables; end = order_of_the_end }
