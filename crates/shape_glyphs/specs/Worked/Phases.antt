-- Substitution and positions as whole lists of steps, with the steps that stand in for lookups at their places.
use Rattle.std.specs.Prelude.{◌≡◌, ◌+◌, ◌*◌, ℕ, pos, Bool, true, false, None, List, [], ◌∷◌, map, refl}
use Rattle.std.specs.Int.{int_wrap}
use Rattle.shape_items.specs.Buffer.{Buffer, new_buffer}
use Rattle.shape_items.specs.Items.{Item, new_item}
use Rattle.shape_buffer.specs.Layout.{LookupMeaning}
use Rattle.shape_buffer.specs.NoLookups.{no_lookups}
use Rattle.shape_buffer.specs.Outcome.{run_steps}
use Rattle.shape_buffer.specs.PositionWalks.{positions_mapped}
use Rattle.shape_buffer.specs.Walks.{items_mapped}
use Rattle.shape_common.specs.Positions.{zero_position}
use Rattle.shape_common.specs.Wrapping.{◌+ʷ◌, ◌-ʷ◌}
use Rattle.shape_common.specs.declared.general_category.hb_unicode_general_category_t.{hb_unicode_general_category_t}
use Rattle.shape_common.specs.declared.general_category.hb_unicode_general_category_t.TheVariants.{NonspacingMark, SpaceSeparator}
use Rattle.shape_plan.specs.Run.{Run}
use Rattle.shape_plan.specs.Worked.Decisions.{no_decisions}
use Rattle.shape_plan.specs.declared.decisions.Decisions.{Decisions}
use Rattle.shape_fallback.specs.Bases.{marks_positioned, frame_of, runs_to_right, bases_positioned, bases, base_at, position_span}
use Rattle.shape_fallback.specs.DueSteps.{spaces_step, marks_adjusted}
use Rattle.shape_fallback.specs.Marks.{around_base, zeroed, zeroed_position}
use Rattle.shape_fallback.specs.Recategorized.{recategorized_item, is_nonspacing}
use Rattle.shape_fallback.specs.Spaces.{spaces_placed, item_spaced, is_lone_space, space_positioned, space_advance, is_em_fraction}
use Rattle.shape_fallback.specs.Spaces.{em_fraction, em_advance}
use Rattle.shape_glyphs.specs.Advances.{advanced}
use Rattle.shape_glyphs.specs.Classes.{glyphs_mapped}
use Rattle.shape_glyphs.specs.Ignorables.{ignorables_zeroed}
use Rattle.shape_glyphs.specs.Steps.{substitute_pre_steps, position_steps}
use Rattle.shape_glyphs.specs.Worked.Positions.{at, glyph_at, decided}
use Rattle.shape_glyphs.specs.Worked.Steps.{counted, counting, glyphs, seen}
use Rattle.shape_glyphs.specs.Worked.Substitution.{with_stages}
use Rattle.shape_glyphs.specs.Zeroing.{marks_zeroed}

abbrev pub with_category : hb_unicode_general_category_t → Item → Item
with_category category item = record item { properties = record item.properties { general_category = category } }

-- ---- substitution

-- U+0E34, whose ccc 0 becomes 232 if marks are placed by their extents, with index 6 of its glyph
abbrev pub sara_i : Buffer
sara_i = record new_buffer { items = with_category NonspacingMark (record (new_item 0xE34 0) { glyph_index = 6; glyph_id = 5 }) ∷ [] }

-- the engine begins by writing the ccc behind the glyph, and its one stage adds 1
abbrev pub with_ccc : Item → Item
with_ccc item = record item { glyph_id = item.glyph_id * 1000 + item.properties.modified_ccc }

abbrev pub one_more : Item → Item
one_more item = record item { glyph_id = item.glyph_id + 1 }

abbrev pub telling : LookupMeaning
telling = record no_lookups {
  substitute_start = λ b. record b { items = map with_ccc b.items };
  stage = λ i b. record b { items = map one_more b.items };
}

abbrev pub placing_marks : Bool → Decisions → Decisions
placing_marks placing decisions = record decisions { fallback_mark_positioning = placing }

-- the glyph under a plan that places marks by their extents or doesn't
abbrev pub substituted : Run → Bool → List ℕ
substituted run placing = glyphs (run_steps (substitute_pre_steps (record run {
  lookups = telling;
  map = with_stages 1;
  hooks = None;
  decisions = placing_marks placing no_decisions;
})) sara_i)

-- ccc comes first, then the glyph of the index, then what the engine begins with, and its stage last
pub record OrderOfSubstitution : Type 0 where
  pub all : (run : Run) → substituted run true ≡ 6233 ∷ []
  pub ccc_stays : (run : Run) → substituted run false ≡ 6001 ∷ []

order_of_substitution : OrderOfSubstitution
unfolding recategorized_item is_nonspacing items_mapped glyphs_mapped
order_of_substitution = record { all = λ run. refl; ccc_stays = λ run. refl }

-- ---- positions

-- a space of half an em
abbrev pub half_an_em : Item
half_an_em =
    let space = with_category SpaceSeparator (glyph_at 1 0) in
    record space { properties = record space.properties { space_type = 2 } }

-- a letter without extents, and a mark on it
abbrev pub marked_letter : Buffer
marked_letter = record (seen (glyph_at 1 0)) {
  items = glyph_at 1 0 ∷ with_category NonspacingMark (glyph_at 2 0) ∷ [];
  positions = zero_position ∷ zero_position ∷ [];
}

-- a run whose tables leave the digits 1, 4 and 6
abbrev pub three_digits : Run → Bool → Run
three_digits run placing = counted run counting 0 (placing_marks placing (decided false false false false false false))

-- a space takes half an em in the place of 600 before the tables add digits; a mark loses its advance after that
pub record OrderOfPositions : Type 0 where
  pub space : (run : Run) → (run_steps (position_steps (three_digits run false)) (seen half_an_em)).positions
      ≡ at (pos 500146) (pos 0) (pos 0) (pos 0) ∷ []
  pub mark : (run : Run) → (run_steps (position_steps (three_digits run true)) marked_letter).positions
      ≡ at (pos 600146) (pos 0) (pos 0) (pos 0) ∷ at (pos 0) (pos 0) (pos 0) (pos 0) ∷ []
  pub mark_not_placed : (run : Run) → (run_steps (position_steps (three_digits run false)) marked_letter).positions
      ≡ at (pos 600146) (pos 0) (pos 0) (pos 0) ∷ at (pos 600146) (pos 0) (pos 0) (pos 0) ∷ []

order_of_positions : OrderOfPositions
unfolding positions_mapped advanced marks_zeroed ignorables_zeroed spaces_step spaces_placed item_spaced is_lone_space space_positioned
    space_advance is_em_fraction em_fraction em_advance marks_adjusted marks_positioned frame_of runs_to_right bases_positioned bases
    base_at position_span around_base zeroed zeroed_position is_nonspacing ◌+ʷ◌ ◌-ʷ◌ int_wrap
order_of_positions = record { space = λ run. refl; mark = λ run. refl; mark_not_placed = λ run. refl }

pub record WorkedPhases : Type 0 where
  pub substitution : OrderOfSubstitution
  pub positions : OrderOfPositions

pub worked_phases : WorkedPhases
worked_phases = record { substitution = order_of_substitution; positions = order_of_positions }
