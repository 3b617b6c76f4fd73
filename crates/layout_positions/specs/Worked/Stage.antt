-- The stage that counts nothing, on tables that were read by hand.
use Rattle.std.specs.Prelude.{◌≡◌, ℕ, pos, negsuc, List, [], ◌∷◌, Some, None, refl}
use Rattle.std.specs.Int.{int_wrap}
use Rattle.std.specs.Int.Count.{ones}
use Rattle.shape_common.specs.Wrapping.{◌+ʷ◌, ◌-ʷ◌, neg_w}
use Rattle.shape_common.specs.declared.text_types.Direction.TheVariants.{LeftToRight}
use Rattle.shape_font.specs.Bytes.{i16_of}
use Rattle.shape_items.specs.Buffer.{Buffer}
use Rattle.shape_items.specs.Items.{Item}
use Rattle.layout_matching.specs.declared.lookup.Lookup.{Lookup}
use Rattle.layout_positions.specs.Lookups.{Applied}
use Rattle.layout_positions.specs.Stage.{by_number, by_subtables, by_lookup, stage_applied}
use Rattle.layout_positions.specs.Worked.Lines.{base, mark, line, advances, offsets, chains, masks}
use Rattle.layout_positions.specs.Worked.Marks.{on_bases}
use Rattle.layout_positions.specs.Worked.Pairs.{single_one, pairs_one}
use Rattle.layout_positions.specs.Worked.Walk.{one_subtable, two_subtables, far, in_context, each_in_context, past_context, off, still, Over}

-- nothing is left for lookups, which the stage doesn't ask
abbrev poor : List Item → Buffer
poor items = record (line LeftToRight items) { max_ops = 0 }

abbrev staged : Lookup → List Item → Buffer
staged l items = stage_applied (l ∷ []) (poor items)

abbrev at_first : ℕ → Lookup → List Item → Applied
at_first levels l items = by_lookup levels l 0 (poor items)

-- glyph 0 is moved to the right
abbrev single_zero : List ℕ
single_zero = 0 ∷ 1 ∷ 0 ∷ 8 ∷ 0 ∷ 1 ∷ 0 ∷ 10 ∷ 0 ∷ 1 ∷ 0 ∷ 1 ∷ 0 ∷ 0 ∷ []

pub record WorkedStage : Type 0 where
  pub each_glyph : Over (one_subtable 1 single_one) 0 0
      (λ l. offsets (staged l (base 2 0 ∷ base 7 1 ∷ base 3 2 ∷ [])) ≡ (pos 10, pos 0) ∷ still ∷ (pos 10, pos 0) ∷ [])
  pub where_it_is_on : Over (one_subtable 1 single_one) 0 0
      (λ l. offsets (staged l (base 2 0 ∷ off 3 1 ∷ base 3 2 ∷ [])) ≡ (pos 10, pos 0) ∷ still ∷ (pos 10, pos 0) ∷ [])
  -- the second lookup moves what the first one has moved
  pub each_lookup : Over (one_subtable 1 single_one) 0 0
      (λ l. offsets (stage_applied (l ∷ l ∷ []) (poor (base 2 0 ∷ base 7 1 ∷ []))) ≡ (pos 20, pos 0) ∷ still ∷ [])
  pub first_subtable_alone : Over two_subtables 0 0 (λ l. offsets (staged l (base 2 0 ∷ [])) ≡ (pos 10, pos 0) ∷ [])
  pub no_such_subtable : Over two_subtables 0 0 (λ l. (by_number l 0 2 (poor (base 2 0 ∷ []))).next ≡ None)
  pub none_applies : Over two_subtables 0 0 (λ l. (by_subtables l 0 (poor (base 7 0 ∷ []))).next ≡ None)
  pub far_away : Over far 0 0 (λ l. offsets (staged l (base 2 0 ∷ [])) ≡ (pos 10, pos 0) ∷ [])
  -- the second glyph of a pair is the first of the next one
  pub pair_after_pair : Over (one_subtable 2 pairs_one) 0 0
      (λ l. advances (staged l (base 2 0 ∷ base 3 1 ∷ base 3 2 ∷ [])) ≡ (pos 550, pos 0) ∷ (pos 530, pos 0) ∷ (pos 600, pos 0) ∷ [])
  pub marks_on_one_base : Over (one_subtable 4 on_bases) 0 0
      (λ l. chains (staged l (base 3 0 ∷ base 2 0 ∷ mark 8 0 ∷ mark 8 0 ∷ [])) ≡ pos 0 ∷ pos 0 ∷ negsuc 0 ∷ negsuc 1 ∷ [])
  pub mark_on_the_first : Over (one_subtable 4 on_bases) 0 0
      (λ l. chains (staged l (base 2 0 ∷ mark 8 0 ∷ [])) ≡ pos 0 ∷ negsuc 0 ∷ [])
  pub no_base : Over (one_subtable 4 on_bases) 0 0 (λ l. chains (staged l (mark 8 0 ∷ base 2 0 ∷ [])) ≡ pos 0 ∷ pos 0 ∷ [])
  pub named_glyph_alone : Over in_context 0 16
      (λ l. offsets (staged l (base 2 0 ∷ base 3 1 ∷ base 7 2 ∷ [])) ≡ still ∷ (pos 10, pos 0) ∷ still ∷ [])
  pub each_is_named : Over each_in_context 0 16
      (λ l. offsets (staged l (base 2 0 ∷ base 3 1 ∷ base 7 2 ∷ [])) ≡ (pos 10, pos 0) ∷ (pos 10, pos 0) ∷ still ∷ [])
  pub none_there_is_named : Over past_context 0 16 (λ l. offsets (staged l (base 2 0 ∷ base 3 1 ∷ [])) ≡ still ∷ still ∷ [])
  pub out_of_context : Over in_context 0 16 (λ l. offsets (staged l (base 2 0 ∷ base 7 1 ∷ base 3 2 ∷ [])) ≡ still ∷ still ∷ still ∷ [])
  pub unsafe_in_the_rule : Over in_context 0 16 (λ l. masks (staged l (base 2 0 ∷ base 3 1 ∷ [])) ≡ 16 ∷ 19 ∷ [])
  -- after the rule the lookup goes on behind it
  pub rule_after_rule : Over in_context 0 16
      (λ l. offsets (staged l (base 2 0 ∷ base 3 1 ∷ base 3 2 ∷ base 2 3 ∷ []))
      ≡ still ∷ (pos 10, pos 0) ∷ still ∷ (pos 10, pos 0) ∷ [])
  pub goes_on_after_the_rule : Over in_context 0 16 (λ l. (at_first 2 l (base 2 0 ∷ base 3 1 ∷ [])).next ≡ Some 2)
  pub too_deep : Over in_context 0 16 (λ l. offsets (at_first 1 l (base 2 0 ∷ base 3 1 ∷ [])).buffer ≡ still ∷ still ∷ [])
  pub glyph_0 : Over (one_subtable 1 single_zero) 0 0 (λ l. (at_first 2 l (base 0 0 ∷ [])).next ≡ Some 1)
  pub past_the_end : Over (one_subtable 1 single_zero) 0 0 (λ l. (at_first 2 l []).next ≡ None)

pub worked_stage : WorkedStage
unfolding i16_of ◌+ʷ◌ ◌-ʷ◌ neg_w int_wrap ones
worked_stage = record {
  each_glyph = λ l. refl;
  where_it_is_on = λ l. refl;
  each_lookup = λ l. refl;
  first_subtable_alone = λ l. refl;
  no_such_subtable = λ l. refl;
  none_applies = λ l. refl;
  far_away = λ l. refl;
  pair_after_pair = λ l. refl;
  marks_on_one_base = λ l. refl;
  mark_on_the_first = λ l. refl;
  no_base = λ l. refl;
  named_glyph_alone = λ l. refl;
  each_is_named = λ l. refl;
  none_there_is_named = λ l. refl;
  out_of_context = λ l. refl;
  unsafe_in_the_rule = λ l. refl;
  rule_after_rule = λ l. refl;
  goes_on_after_the_rule = λ l. refl;
  too_deep = λ l. refl;
  glyph_0 = λ l. refl;
  past_the_end = λ l. refl;
}
