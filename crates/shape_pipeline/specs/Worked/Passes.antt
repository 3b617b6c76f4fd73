-- What is known of a text that was prepared, normalised and shaped, when each passes the limit, and what a shaper makes
-- for a text's plan, on texts that are worked out by hand.
use Rattle.std.specs.Prelude.{◌≡◌, ◌+◌, ◌<◌, ◌≤◌, ◌⊎◌, ℕ, Bool, false, List, [], ◌∷◌, length, Option, Some, None, is_some, refl}
use Rattle.std.specs.Option.{option_map_or}
use Rattle.shape_items.specs.Buffer.{Buffer, new_buffer, limit_of}
use Rattle.shape_items.specs.Items.{new_item}
use Rattle.shape_buffer.specs.MapBuilder.{Builder}
use Rattle.shape_buffer.specs.Outcome.{run_steps, EachWithin, SomePast}
use Rattle.shape_common.specs.PlainUnicode.{plain_unicode}
use Rattle.shape_common.specs.declared.face.hb_tables_t.{hb_tables_t}
use Rattle.shape_common.specs.declared.text_types.Direction.{Direction}
use Rattle.shape_normalize.specs.RoundOne.{round_one}
use Rattle.shape_plan.specs.Decisions.{decided}
use Rattle.shape_plan.specs.Planner.{Planning, begun_planner, collected_planner, facts_of, compiled_plan, planned}
use Rattle.shape_plan.specs.Requests.{requested}
use Rattle.shape_plan.specs.Run.{Run}
use Rattle.shape_plan.specs.Shaper.{ShaperConstants}
use Rattle.shape_plan.specs.Worked.Decisions.{no_tables}
use Rattle.shape_plan.specs.Worked.Plans.{planning_with, constants_of, only_morx}
use Rattle.shape_plan.specs.Worked.Texts.{telling_layout, german}
use Rattle.shape_prepare.specs.PrepareSteps.{prepare_steps}
use Rattle.shape_pipeline.specs.Headline.{target_of, normalised_list, IsMadeOfNormalisedList}
use Rattle.shape_pipeline.specs.Planned.{data_for_text}
use Rattle.shape_pipeline.specs.Shaped.{HasItems, Prepares, Shapes, ShapingPasses, NormalisingPasses, all_steps, shaped_steps, entered, finished, prepared}
use Rattle.shape_pipeline.specs.Worked.Beginnings.{text_in}

-- ---- a text of one item, and one of none

abbrev pub one_item : Buffer
one_item = record new_buffer { items = new_item 0x61 0 ∷ [] }

pub record TextsPrepared (run : Run) (target : Direction) : Type 0 where
  pub made : (new : Buffer) → Prepares run target one_item new → new ≡ run_steps (prepare_steps run target) (entered one_item)
  pub within : (new : Buffer) → Prepares run target one_item new → length new.items ≤ 16384
  pub limit : (new : Buffer) → Prepares run target one_item new → limit_of new ≡ 16384
  pub each_step : (new : Buffer) → Prepares run target one_item new → EachWithin (prepare_steps run target) (entered one_item)
  pub none : Prepares run target new_buffer new_buffer
  pub none_stays : (new : Buffer) → Prepares run target new_buffer new → new ≡ new_buffer

pub record TextsShaped (run : Run) (target : Direction) : Type 0 where
  pub made : (new : Buffer) → Shapes run target one_item new → new ≡ finished target (run_steps (all_steps run target) (entered one_item))
  pub within : (new : Buffer) → Shapes run target one_item new → length new.items ≤ 16384
  pub each_step : (new : Buffer) → Shapes run target one_item new → EachWithin (all_steps run target) (entered one_item)
  pub none : Shapes run target new_buffer new_buffer
  pub none_stays : (new : Buffer) → Shapes run target new_buffer new → new ≡ new_buffer

pub record ListsOfGlyphs (run : Run) : Type 0 where
  pub of_the_list : (glyphs : Buffer) → IsMadeOfNormalisedList run one_item glyphs
      → glyphs ≡ finished (target_of run one_item) (run_steps (shaped_steps run) (normalised_list run one_item))
  -- nothing is said of a text without items
  pub of_nothing : (glyphs : Buffer) → IsMadeOfNormalisedList run new_buffer glyphs

-- ---- limits

-- the prepared text passes its limit if it is expanded
abbrev pub ExpandingPasses : Run → Direction → Type 0
ExpandingPasses run target =
    let text = prepared run target (entered one_item) in
    limit_of text < length (round_one run.rules text).items

pub record LimitsPassed (run : Run) (target : Direction) : Type 0 where
  pub preparing : SomePast (prepare_steps run target) (entered one_item) → NormalisingPasses run target one_item
  pub expanding : ExpandingPasses run target → NormalisingPasses run target one_item
  pub by_no_other : NormalisingPasses run target one_item
      → SomePast (prepare_steps run target) (entered one_item)
      ⊎ ExpandingPasses run target
  -- a text without items isn't prepared, so no step of that passes
  pub of_nothing : NormalisingPasses run target new_buffer → limit_of new_buffer < length (round_one run.rules new_buffer).items
  pub shaping : ShapingPasses run target one_item → SomePast (all_steps run target) (entered one_item)
  pub in_shaping : SomePast (all_steps run target) (entered one_item) → ShapingPasses run target one_item

-- ---- the data of a plan

-- data that tells the shaper with the script that was chosen, and whether there was data before
abbrev pub telling_data : ShaperConstants → Planning hb_tables_t ℕ Builder (ℕ × Bool)
telling_data constants = record (planning_with constants) {
  layouts = λ _. telling_layout;
  made_data = λ shaper plan. (shaper + option_map_or (λ script. script.0) plan.ot_map.gsub_script 0, is_some plan.shaper_data);
}

abbrev pub data_in : ShaperConstants → hb_tables_t → Option (List ℕ) → Option (ℕ × Bool)
data_in constants tables language = data_for_text plain_unicode (telling_data constants) tables 5 [] (text_in language)

pub record DataOfTexts : Type 0 where
  -- shaper 5, script 100 and the two letters of `de`
  pub by_language : data_in constants_of no_tables german ≡ Some (107, false)
  pub without_language : data_in constants_of no_tables None ≡ Some (105, false)
  pub hook_not_given : data_in (record constants_of { has_create_data = false }) no_tables german ≡ None
  pub shaper_gives_way : data_in constants_of only_morx german ≡ None

pub data_of_texts : DataOfTexts
unfolding begun_planner requested collected_planner facts_of decided compiled_plan planned
data_of_texts = record { by_language = refl; without_language = refl; hook_not_given = refl; shaper_gives_way = refl }

pub record WorkedPasses : Type 0 where
  pub some_items : HasItems one_item
  pub no_items : HasItems new_buffer → ⊥
  pub prepared : (run : Run) (target : Direction) → TextsPrepared run target
  pub shaped : (run : Run) (target : Direction) → TextsShaped run target
  pub glyphs : (run : Run) → ListsOfGlyphs run
  pub limits : (run : Run) (target : Direction) → LimitsPassed run target
  pub data_made : DataOfTexts
