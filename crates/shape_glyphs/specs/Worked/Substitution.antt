-- Glyphs and stages as lists of steps, run on small cases whose results are worked out by hand.
use Rattle.std.specs.Prelude.{◌≡◌, ℕ, ◌+◌, ◌*◌, ◌==◌, Bool, true, false, List, [], ◌∷◌, length, map, None, Some, refl, if◌then◌else◌}
use Rattle.shape_items.specs.Buffer.{Buffer, new_buffer}
use Rattle.shape_buffer.specs.Walks.{items_mapped}
use Rattle.shape_items.specs.Items.{Item, new_item}
use Rattle.shape_buffer.specs.Layout.{MapMeaning, LookupMeaning}
use Rattle.shape_buffer.specs.NoLookups.{no_lookups}
use Rattle.shape_buffer.specs.Outcome.{run_steps}
use Rattle.shape_common.specs.Unicode.{UnicodeMeaning}
use Rattle.shape_common.specs.declared.text_types.Feature.{Feature}
use Rattle.shape_plan.specs.Worked.Decisions.{no_decisions}
use Rattle.shape_plan.specs.Worked.Plans.{constants_of}
use Rattle.shape_plan.specs.Run.{Run}
use Rattle.shape_plan.specs.Shaper.{ShaperConstants, HookMeaning}
use Rattle.shape_plan.specs.declared.decisions.Decisions.{Decisions}
use Rattle.shape_plan.specs.Shapers.{no_hooks}
use Rattle.shape_glyphs.specs.Classes.{glyphs_mapped, classes_synthesised}
use Rattle.shape_glyphs.specs.Substitution.{glyph_steps, substitute_steps}

-- what is done to each glyph
abbrev each_glyph : (ℕ → ℕ) → Buffer → Buffer
each_glyph f b =
    let change : Item → Item = λ item. record item { glyph_id = f item.glyph_id } in
    record b { items = map change b.items }

-- glyph and class as the engine prepares them
abbrev prepared_glyph : Item → Item
prepared_glyph item = record item { glyph_id = item.glyph_id * 2; properties = record item.properties { glyph_class = record { 0 = 4 } } }

-- stage 0 adds 1, stage 1 adds 3, each later one 1000; `morx` adds the number of features and 100, and deletion triples
abbrev adding : LookupMeaning
adding = record no_lookups {
  substitute_start = λ b. record b { items = map prepared_glyph b.items };
  stage = λ i. each_glyph (λ g. g + (if i == 0 then 1 else if i == 1 then 3 else 1000));
  aat_substitute = λ features. each_glyph (λ g. g + length features + 100);
  aat_remove_deleted = each_glyph (λ g. g * 3);
}

-- so many stages, with pause 7 after the first one and no other; feature 1 has the bits 0x300
abbrev pub with_stages : ℕ → MapMeaning
with_stages n = record {
  global_mask = 0;
  one_mask = λ tag. 0;
  mask = λ tag. (0x300, 8);
  feature_index = λ table tag. None;
  stages = n;
  pause_after = λ i. if i == 0 then Some 7 else None;
}

abbrev pub constants : Bool → ShaperConstants
constants has_pause = record constants_of {
  is_default = true;
  zero_width_marks = 0;
  fallback_position = false;
  has_create_data = false;
  has_pause = has_pause;
}

-- pause 7 doubles each glyph, every other one makes it 0
abbrev doubling : UnicodeMeaning → HookMeaning
doubling unicode = record (no_hooks unicode) { pause = λ n. each_glyph (λ g. if n == 7 then g * 2 else 0) }

abbrev pub by_tables : Bool → Bool → Decisions
by_tables morx gpos = record no_decisions { apply_morx = morx; apply_gpos = gpos }

-- one item of glyph 5
abbrev glyph_5 : Buffer
glyph_5 = record new_buffer { items = record (new_item 0x61 0) { glyph_index = 6; glyph_id = 5 } ∷ [] }

abbrev pub glyphs : Buffer → List ℕ
glyphs b = map (λ item. item.glyph_id) b.items

abbrev whole_feature : Feature
whole_feature = record { tag = record { 0 = 1 }; value = 1; start = 0; end = 4294967295 }

-- the run with the shaper, and with none
abbrev hooked : Run → Run
hooked run = record run { hooks = Some (doubling run.unicode) }

abbrev unhooked : Run → Run
unhooked run = record run { hooks = None }

-- the run over so many stages, or over the tables of a plan
abbrev staged : Run → ShaperConstants → ℕ → Decisions → Run
staged run of_shaper n decisions = record run { constants = of_shaper; map = with_stages n; decisions = decisions }

-- what substitution makes of glyph 5
abbrev glyphs_after : Run → List ℕ
glyphs_after run = glyphs (run_steps (substitute_steps run) glyph_5)

pub record RunsOfLookups (run : Run) : Type 0 where
  -- 5 and 1, twice, and 3
  pub pause_between : glyphs_after (hooked (staged run (constants true) 2 (by_tables false true))) ≡ 15 ∷ []
  pub without_shaper : glyphs_after (unhooked (staged run (constants true) 2 (by_tables false true))) ≡ 9 ∷ []
  pub pause_not_given : glyphs_after (hooked (staged run (constants false) 2 (by_tables false false))) ≡ 9 ∷ []
  pub no_stage : glyphs_after (hooked (staged run (constants true) 0 (by_tables false false))) ≡ 5 ∷ []
  pub one_stage : glyphs_after (hooked (staged run (constants true) 1 (by_tables false false))) ≡ 12 ∷ []
  pub three_stages : glyphs_after (hooked (staged run (constants true) 3 (by_tables false false))) ≡ 1015 ∷ []
  -- 5, two features and 100
  pub by_morx : glyphs_after (record (hooked (staged run (constants true) 2 (by_tables true false)))
      { user_features = whole_feature ∷ whole_feature ∷ [] }) ≡ 107 ∷ []
  -- 5 and 100, three times
  pub morx_and_gpos : glyphs_after (record (unhooked (staged run (constants true) 2 (by_tables true true)))
      { user_features = [] }) ≡ 315 ∷ []

-- three stages, with pause 7 after this one alone
abbrev glyphs_paused : Run → ℕ → List ℕ
glyphs_paused run stage =
    glyphs_after (record (hooked (staged run (constants true) 3 (by_tables false false)))
    { map = record (with_stages 3) { pause_after = λ i. if i == stage then Some 7 else None } })

-- 5, and 1, 3 and 1000 by the stages, doubled after one of them
pub record RunsOfPauses (run : Run) : Type 0 where
  pub after_first : glyphs_paused run 0 ≡ 1015 ∷ []
  pub after_second : glyphs_paused run 1 ≡ 1018 ∷ []
  pub after_last : glyphs_paused run 2 ≡ 2018 ∷ []

-- before the lookups: the glyph of the index, doubled by `substitute_start`, in class 4; another class in its place if
-- the plan says so
pub record RunsOfGlyphs (run : Run) : Type 0 where
  pub mapped_first : glyphs (run_steps (glyph_steps (record run { decisions = no_decisions })) glyph_5) ≡ 12 ∷ []
  pub classes_of_face : map (λ item. item.properties.glyph_class.0)
      (run_steps (glyph_steps (record run { decisions = no_decisions })) glyph_5).items ≡ 4 ∷ []
  pub classes_made_up : map (λ item. item.properties.glyph_class.0)
      (run_steps (glyph_steps (record run { decisions = record no_decisions { fallback_glyph_classes = true } })) glyph_5).items
      ≡ 2 ∷ []

-- whatever else a run depends on
pub record WorkedSubstitution : Type 0 where
  pub lookups : (run : Run) → RunsOfLookups (record run { lookups = adding })
  pub pauses : (run : Run) → RunsOfPauses (record run { lookups = adding })
  pub glyphs : (run : Run) → RunsOfGlyphs (record run { lookups = adding })

runs_of_lookups : (run : Run) → RunsOfLookups (record run { lookups = adding })
runs_of_lookups run = record {
  pause_between = refl;
  without_shaper = refl;
  pause_not_given = refl;
  no_stage = refl;
  one_stage = refl;
  three_stages = refl;
  by_morx = refl;
  morx_and_gpos = refl;
}

runs_of_pauses : (run : Run) → RunsOfPauses (record run { lookups = adding })
runs_of_pauses run = record { after_first = refl; after_second = refl; after_last = refl }

runs_of_glyphs : (run : Run) → RunsOfGlyphs (record run { lookups = adding })
unfolding glyphs_mapped classes_synthesised items_mapped
runs_of_glyphs run = record { mapped_first = refl; classes_of_face = refl; classes_made_up = refl }

pub worked_substitution : WorkedSubstitution
worked_substitution = record { lookups = runs_of_lookups; pauses = runs_of_pauses; glyphs = runs_of_glyphs }
