-- Which glyphs are looked for and where, on glyphs and tables that were read by hand.
use Rattle.std.specs.Prelude.{◌≡◌, ℕ, List, [], ◌∷◌, ◌++◌, Some, None, true, false, is_some, replicate, refl}
use Rattle.std.specs.Option.{option_map}
use Rattle.shape_font.specs.Worked.Glyphs.{words}
use Rattle.shape_items.specs.Items.{Item, new_item, new_properties}
use Rattle.layout_matching.specs.Firsts.{has_bit, may_begin}
use Rattle.layout_matching.specs.Found.{is_first}
use Rattle.layout_matching.specs.Input.{input_matched, is_on_component, joins_by, marks_passed, with_glyph_at}
use Rattle.layout_matching.specs.Rules.{is_named, plain_rule, row, rules_at}
use Rattle.layout_matching.specs.Seeking.{mask_of, last_after, last_before}
use Rattle.layout_matching.specs.Skipping.{syllable_of}
use Rattle.layout_matching.specs.Spans.{seek_around}
use Rattle.layout_matching.specs.Worked.Work.{plain, on_component, ligature_three}
use Rattle.layout_matching.specs.declared.input.Matched.{Matched}
use Rattle.layout_matching.specs.declared.lookup.Lookup.{Lookup}
use Rattle.layout_matching.specs.declared.rules.Test.TheVariants.{Any, Class, Coverage, Glyph}

abbrev glyph : ℕ → Item
glyph g = record (new_item 0 0) { glyph_id = g; mask = 16 }

-- positioning, which sees every glyph
abbrev seeing : Lookup → Lookup
seeing l =
    record l { flags = 0; mask = 16; positioning = true; auto_zwj = true; auto_zwnj = true; per_syllable = false; mark_set = 0 }

-- two glyphs by their values at 0, in any syllable
abbrev LastAfter : List ℕ → ℕ → Type 0
LastAfter values last = (l : Lookup) → l.table.now ≡ words values
    → last_after (seeing l) (record { row = row Glyph 0 2 0; is_input = false; syllable = 0 }) (glyph 5 ∷ glyph 6 ∷ glyph 7 ∷ []) 2 0 ≡ Some last

abbrev LastBefore : List ℕ → ℕ → Type 0
LastBefore values last = (l : Lookup) → l.table.now ≡ words values
    → last_before (seeing l) (record { row = row Glyph 0 2 0; is_input = false; syllable = 0 }) (glyph 5 ∷ glyph 6 ∷ glyph 7 ∷ []) 2 2 ≡ Some last

pub record WorkedSeeking : Type 0 where
  pub one_after_the_other : LastAfter (6 ∷ 7 ∷ []) 2
  -- the nearest glyph before it first
  pub one_before_the_other : LastBefore (6 ∷ 5 ∷ []) 0
  -- around what is matched any mask will do
  pub any_mask_around : (l : Lookup) → mask_of (record l { mask = 16 }) (seek_around l (new_item 0 0) false (row Any 0 0 0)) ≡ 0xFFFFFFFF
  pub sixty_four_match : (l : Lookup) → is_some (input_matched (seeing l) (replicate 64 (glyph 5)) 0 (row Any 0 64 0)) ≡ true
  pub sixty_five_do_not : (l : Lookup) → is_some (input_matched (seeing l) (replicate 65 (glyph 5)) 0 (row Any 0 65 0)) ≡ false
  pub no_mark : (l : Lookup)
      → option_map (λ (m : Matched). m.all_marks) (with_glyph_at (record l { positioning = true }) (glyph 5 ∷ glyph 6 ∷ []) 0
      (record { last = 0; all_marks = true }) 1) ≡ Some false
  -- positioning keeps to no syllable
  pub any_syllable : (l : Lookup) → syllable_of (record l { per_syllable = true; positioning = true })
      (record (new_item 0 0) { properties = record new_properties { syllable = 2 } }) ≡ 0
  -- a NULL offset names no list, though the bytes at its place are one of glyph 5
  pub listed : is_named (words (7 ∷ 1 ∷ 1 ∷ 5 ∷ [])) 0 2 5 Coverage ≡ true
  pub null_list : is_named (words (1 ∷ 1 ∷ 5 ∷ [])) 0 0 5 Coverage ≡ false
  -- glyph 5 is of class 1
  pub its_class : is_named (words (1 ∷ 5 ∷ 1 ∷ 1 ∷ [])) 0 1 5 Class ≡ true
  pub greater_class : is_named (words (1 ∷ 5 ∷ 1 ∷ 1 ∷ [])) 0 2 5 Class ≡ false
  -- two sets are stated, at 10 and 12; the last of two is cut off
  pub second_set : rules_at (words (1 ∷ 0 ∷ 2 ∷ 10 ∷ 12 ∷ 14 ∷ [])) 0 4 1 ≡ Some 12
  pub past_the_sets : rules_at (words (1 ∷ 0 ∷ 2 ∷ 10 ∷ 12 ∷ 14 ∷ [])) 0 4 2 ≡ None
  pub set_cut_off : rules_at (words (1 ∷ 0 ∷ 2 ∷ 10 ∷ []) ++ 1 ∷ []) 0 4 1 ≡ None
  -- a rule of no glyph begins with none, whatever stands before its values
  pub rule_of_no_glyph : is_first (words (2 ∷ 1 ∷ 1 ∷ 5 ∷ [])) 0 (record (plain_rule [] Any 0 0 0) { input = row Coverage 0 0 2 }) 5 ≡ false
  pub rule_of_one_glyph : is_first (words (2 ∷ 1 ∷ 1 ∷ 5 ∷ [])) 0 (record (plain_rule [] Any 0 0 0) { input = row Coverage 0 1 2 }) 5 ≡ true
  -- 511 has the bits 63, 31 and 0, 512 the bits 0, 32 and 1
  pub last_of_a_512th : may_begin (record { fine = 0x8000000000000000; middle = 0x80000000; coarse = 1 }) 511 ≡ true
  pub first_of_a_512th : may_begin (record { fine = 1; middle = 0x100000000; coarse = 2 }) 512 ≡ true
  -- on component 1 of ligature 3; the ligature; a part of what one glyph was taken apart into
  pub on_a_component : is_on_component on_component ≡ true
  pub the_ligature : is_on_component ligature_three ≡ false
  pub a_part : is_on_component (record (plain 5) { properties = record new_properties { ligature_component = 1 } }) ≡ false
  -- positioning looks for no ligature
  pub marks_to_the_ligature : (l : Lookup) → marks_passed (record l { positioning = false }) (ligature_three ∷ on_component ∷ on_component ∷ []) 2 ≡ 1
  pub no_marks_of_positions : (l : Lookup) → marks_passed (record l { positioning = true }) (ligature_three ∷ on_component ∷ on_component ∷ []) 2 ≡ 0
  -- a glyph on no component matches with a ligature, and with no mark on a component of one
  pub joins_a_ligature : joins_by false (plain 5) ligature_three ≡ true
  pub joins_no_mark : joins_by false (plain 5) on_component ≡ false
  pub joins_its_mark : joins_by false ligature_three on_component ≡ true
  pub its_syllable : (l : Lookup) → syllable_of (record l { per_syllable = true; positioning = false })
      (record (new_item 0 0) { properties = record new_properties { syllable = 2 } }) ≡ 2

pub worked_seeking : WorkedSeeking
unfolding has_bit
worked_seeking = record {
  one_after_the_other = λ l t. rw t refl;
  one_before_the_other = λ l t. rw t refl;
  any_mask_around = λ l. refl;
  sixty_four_match = λ l. refl;
  sixty_five_do_not = λ l. refl;
  no_mark = λ l. refl;
  any_syllable = λ l. refl;
  listed = refl;
  null_list = refl;
  its_class = refl;
  greater_class = refl;
  second_set = refl;
  past_the_sets = refl;
  set_cut_off = refl;
  rule_of_no_glyph = refl;
  rule_of_one_glyph = refl;
  last_of_a_512th = refl;
  first_of_a_512th = refl;
  on_a_component = refl;
  the_ligature = refl;
  a_part = refl;
  marks_to_the_ligature = λ l. refl;
  no_marks_of_positions = λ l. refl;
  joins_a_ligature = refl;
  joins_no_mark = refl;
  joins_its_mark = refl;
  its_syllable = λ l. refl;
}
