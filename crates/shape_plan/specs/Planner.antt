-- Planners, and the plans that they make.
use Rattle.std.specs.Prelude.{◌==◌, ℕ, Bool, false, ◌&&◌, ◌||◌, not, List, Option, Some, None, is_some, if◌then◌else◌}
use Rattle.std.specs.Option.{option_map, option_map_or}
use Rattle.shape_common.specs.Direction.{is_horizontal}
use Rattle.shape_common.specs.Face.{FaceMeaning}
use Rattle.shape_buffer.specs.Layout.{LayoutMeaning, MapMeaning}
use Rattle.shape_buffer.specs.MapBuilder.{Builder, new_builder}
use Rattle.shape_common.specs.declared.text_types.Direction.{Direction}
use Rattle.shape_common.specs.declared.text_types.Feature.{Feature}
use Rattle.shape_common.specs.declared.text_types.Script.{Script}
use Rattle.shape_common.specs.declared.text_types.hb_tag_t.{hb_tag_t}
use Rattle.shape_common.specs.declared.face.hb_tables_t.{hb_tables_t}
use Rattle.shape_buffer.specs.declared.interfaces.map_request.MapRequest.{MapRequest}
use Rattle.shape_buffer.specs.declared.interfaces.map_request.TableIndex.TheVariants.{GPOS}
use Rattle.shape_plan.specs.Decisions.{decided}
use Rattle.shape_plan.specs.Plan.{Plan}
use Rattle.shape_plan.specs.Requests.{hook_of, requested}
use Rattle.shape_plan.specs.Shaper.{ShaperConstants}
use Rattle.shape_plan.specs.Tags as tag
use Rattle.shape_plan.specs.declared.decisions.PlanFacts.{PlanFacts}

-- a planner as its callers see it
pub record Planner (F S : Type 0) : Type 0 where
  pub face : F
  pub direction : Direction
  pub script : Option Script
  pub ot_map : Builder
  pub apply_morx : Bool
  pub script_zero_marks : Bool
  pub script_fallback_mark_positioning : Bool
  -- if it is used
  pub shaper : Option S

-- what planning depends on: what faces and engine return, the shaper's constants and those of its hooks that make a
-- plan
pub record Planning (F S P D : Type 0) : Type 0 where
  pub faces : F → FaceMeaning
  pub layouts : F → LayoutMeaning P
  pub masks : P → MapMeaning
  pub constants : ShaperConstants
  pub collected : S → Builder → Direction → Option Script → List MapRequest
  pub overriding : S → Builder → Direction → Option Script → List MapRequest
  pub made_data : S → Plan S P D → D

-- morx substitutes if the face has it and the text is horizontal or there is no GSUB
abbrev pub uses_morx : hb_tables_t → Direction → Bool
uses_morx tables direction = tables.morx && (is_horizontal direction || not tables.gsub)

-- under morx a shaper that isn't the default gives way to the one that knows no script
abbrev pub used_shaper : {S : Type 0} → Bool → Bool → S → Option S
used_shaper apply_morx is_default shaper = if apply_morx && not is_default then None else Some shaper

-- a planner begins without requests; what the given shaper prefers for marks counts even if it gives way
unfoldable pub begun_planner : {F S P D : Type 0} → Planning F S P D → F → S → Direction → Option Script → Option (List ℕ) → Planner F S
begun_planner planning face shaper direction script language =
    let morx = uses_morx (planning.faces face).tables direction in record {
      face = face;
      direction = direction;
      script = script;
      ot_map = new_builder language ((planning.layouts face).chosen_script script language);
      apply_morx = morx;
      script_zero_marks = not (planning.constants.zero_width_marks == 0);
      script_fallback_mark_positioning = planning.constants.fallback_position;
      shaper = used_shaper morx planning.constants.is_default shaper;
    }

-- a planner with all requests made
unfoldable pub collected_planner : {F S P D : Type 0} → Planning F S P D → List Feature → Planner F S → Planner F S
collected_planner planning features planner = record planner {
  ot_map = requested planner.direction planner.script
      (hook_of planning.constants.has_collect_features planning.collected planner.shaper)
      (hook_of planning.constants.has_override_features planning.overriding planner.shaper)
      features planner.ot_map;
}

-- kerning has a feature for horizontal texts, and one for others
abbrev pub kern_tag : Direction → hb_tag_t
kern_tag direction = if is_horizontal direction then tag.kern else tag.vkrn

-- a shaper made for one script does without the positioning lookups of another
abbrev pub is_chosen : Option hb_tag_t → hb_tag_t → Bool
is_chosen chosen script = option_map_or (λ c. c.0 == script.0) chosen false

abbrev pub is_gpos_disabled : {S : Type 0} → Option hb_tag_t → Option S → Option hb_tag_t → Bool
is_gpos_disabled gpos_tag shaper chosen = is_some shaper && option_map_or (λ script. not (is_chosen chosen script)) gpos_tag false

-- what the decisions depend on, where `map` is what the requests were compiled to
unfoldable pub facts_of : {F S P D : Type 0} → Planning F S P D → Planner F S → MapMeaning → PlanFacts
facts_of planning planner map =
    let layout = planning.layouts planner.face in
    let kern = kern_tag planner.direction in record {
      frac_mask = map.one_mask tag.frac;
      numr_mask = map.one_mask tag.numr;
      dnom_mask = map.one_mask tag.dnom;
      rtlm_mask = map.one_mask tag.rtlm;
      vert_mask = map.one_mask tag.vert;
      mark_mask = map.one_mask tag.mark;
      kern_mask = (map.mask kern).0;
      trak_mask = (map.mask tag.trak).0;
      has_gpos_kern = is_some (map.feature_index GPOS kern);
      disable_gpos = is_gpos_disabled planning.constants.gpos_tag planner.shaper planner.ot_map.gpos_script;
      apply_morx = planner.apply_morx;
      script_zero_marks = planner.script_zero_marks;
      script_fallback_mark_positioning = planner.script_fallback_mark_positioning;
      tables = (planning.faces planner.face).tables;
      has_glyph_classes = layout.has_glyph_classes;
      has_kerning = layout.has_kerning;
      has_machine_kerning = layout.has_machine_kerning;
      has_cross_kerning = layout.has_cross_kerning;
    }

-- what the shaper makes for a plan, if it is used and gives the hook
abbrev pub data_for : {S P D : Type 0} → Bool → (S → Plan S P D → D) → Plan S P D → Option D
data_for given made plan = option_map (λ make. make plan) (hook_of given made plan.shaper)

-- a plan with that
abbrev pub with_data : {S P D : Type 0} → Bool → (S → Plan S P D → D) → Plan S P D → Plan S P D
with_data given made plan = record plan { shaper_data = data_for given made plan }

-- a plan as its shaper sees it when it makes the data: the same, without any
abbrev pub without_data : {S P D : Type 0} → Plan S P D → Plan S P D
without_data plan = record plan { shaper_data = None }

-- what a plan's shaper made for it
abbrev pub own_data : {F S P D : Type 0} → Planning F S P D → Plan S P D → Option D
own_data planning plan = data_for planning.constants.has_create_data planning.made_data (without_data plan)

-- the plan that a planner makes, with a copy of the user's features
unfoldable pub compiled_plan : {F S P D : Type 0} → Planning F S P D → List Feature → Planner F S → Plan S P D
compiled_plan planning features planner =
    let map = (planning.layouts planner.face).compiled planner.ot_map in
    with_data planning.constants.has_create_data planning.made_data (record {
      direction = planner.direction;
      script = planner.script;
      shaper = planner.shaper;
      ot_map = map;
      decisions = decided (facts_of planning planner (planning.masks map));
      user_features = features;
      shaper_data = None;
    })

-- the plan for a face, a shaper, a direction, a script, a language and the user's features
unfoldable pub planned : {F S P D : Type 0} → Planning F S P D → F → S → Direction → Option Script → Option (List ℕ) → List Feature
    → Plan S P D
planned planning face shaper direction script language features =
    compiled_plan planning features (collected_planner planning features (begun_planner planning face shaper direction script language))
