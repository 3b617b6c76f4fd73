-- Planners and plans, computed on small cases whose answers are worked out by hand.
use Rattle.std.specs.Prelude.{◌≡◌, ◌+◌, ◌*◌, ℕ, pos, Bool, true, false, List, [], ◌∷◌, length, Some, None, is_some, refl}
use Rattle.shape_common.specs.Face.{FaceMeaning}
use Rattle.shape_buffer.specs.Layout.{LayoutMeaning, MapMeaning}
use Rattle.shape_buffer.specs.MapBuilder.{Builder}
use Rattle.shape_common.specs.declared.text_types.Direction.{Direction}
use Rattle.shape_common.specs.declared.text_types.Direction.TheVariants.{LeftToRight, RightToLeft, TopToBottom}
use Rattle.shape_common.specs.declared.text_types.Feature.{Feature}
use Rattle.shape_common.specs.declared.face.hb_tables_t.{hb_tables_t}
use Rattle.shape_buffer.specs.declared.interfaces.map_request.TableIndex.TheVariants.{GSUB, GPOS}
use Rattle.shape_plan.specs.Worked.Faces.{bare_face}
use Rattle.shape_plan.specs.Plan.{Plan}
use Rattle.shape_plan.specs.Planner.{Planning, Planner, begun_planner, collected_planner, facts_of, compiled_plan, planned}
use Rattle.shape_plan.specs.Planner.{is_gpos_disabled, own_data}
use Rattle.shape_plan.specs.Requests.{requested}
use Rattle.shape_plan.specs.Decisions.{decided}
use Rattle.shape_plan.specs.Shaper.{ShaperConstants}
use Rattle.shape_plan.specs.Tags.{tag}
use Rattle.shape_plan.specs.Worked.Decisions.{no_tables}
use Rattle.shape_plan.specs.Worked.Requests.{ask, kern_off}

-- a face is its tables
abbrev pub face_of : hb_tables_t → FaceMeaning
face_of tables = record bare_face { tables = tables }

-- an engine that compiles a builder to itself, and chose script 1 for GSUB and 2 for GPOS; it has machine and cross
-- kerning, but no kerning
abbrev pub layout_of : LayoutMeaning Builder
layout_of = record {
  chosen_script = λ _ _ table. elim table [ GSUB ↦ Some (tag 1) | GPOS ↦ Some (tag 2) ];
  compiled = λ builder. builder;
  has_glyph_classes = true;
  has_kerning = false;
  has_machine_kerning = true;
  has_cross_kerning = true;
}

-- masks that tell their tags: the 1-mask of a feature is its tag, the mask twice that
abbrev pub tag_masks : Builder → MapMeaning
tag_masks builder = record {
  global_mask = 0;
  one_mask = λ tag. tag.0;
  mask = λ tag. (2 * tag.0, 0);
  feature_index = λ _ _. None;
  stages = 0;
  pause_after = λ _. None;
}

-- a shaper that isn't the default: zeroes early and places marks by extents; gives no hook except `create_data`
abbrev pub constants_of : ShaperConstants
constants_of = record {
  is_default = false;
  preference = pos 4;
  gpos_tag = None;
  zero_width_marks = 1;
  fallback_position = true;
  has_collect_features = false;
  has_override_features = false;
  has_create_data = true;
  has_preprocess_text = false;
  has_postprocess_glyphs = false;
  has_pause = false;
  has_decompose = false;
  has_compose = false;
  has_setup_masks = false;
  has_reorder_marks = false;
}

-- the data tells the shaper plus the number of the user's features, and whether there was data before
abbrev pub planning_with : ShaperConstants → Planning hb_tables_t ℕ Builder (ℕ × Bool)
planning_with constants = record {
  faces = face_of;
  layouts = λ _. layout_of;
  masks = tag_masks;
  constants = constants;
  collected = λ shaper _ _ _. ask shaper 0 0 ∷ [];
  overriding = λ shaper _ _ _. ask shaper 1 1 ∷ [];
  made_data = λ shaper plan. (shaper + length plan.user_features, is_some plan.shaper_data);
}

abbrev pub only_morx : hb_tables_t
only_morx = record no_tables { morx = true }

abbrev pub morx_and_gsub : hb_tables_t
morx_and_gsub = record no_tables { morx = true; gsub = true }

-- a planner of shaper 5, without script and language
abbrev pub begun_on : ShaperConstants → hb_tables_t → Direction → Planner hb_tables_t ℕ
begun_on constants tables direction = begun_planner (planning_with constants) tables 5 direction None None

abbrev pub as_default : ShaperConstants
as_default = record constants_of { is_default = true }

pub record UsedShapers : Type 0 where
  pub gives_way : (begun_on constants_of only_morx LeftToRight).shaper ≡ None
  pub gives_way_rtl : (begun_on constants_of morx_and_gsub RightToLeft).shaper ≡ None
  pub default_stays : (begun_on as_default only_morx LeftToRight).shaper ≡ Some 5
  pub stays_vertical : (begun_on constants_of morx_and_gsub TopToBottom).shaper ≡ Some 5
  pub gives_way_vertical : (begun_on constants_of only_morx TopToBottom).shaper ≡ None
  pub stays_without_morx : (begun_on constants_of (record no_tables { gsub = true }) LeftToRight).shaper ≡ Some 5
  pub morx : (begun_on constants_of only_morx LeftToRight).apply_morx ≡ true
  pub no_morx_vertical : (begun_on constants_of morx_and_gsub TopToBottom).apply_morx ≡ false
  -- the preferences are those of the given shaper
  pub zeroes : (begun_on constants_of only_morx LeftToRight).script_zero_marks ≡ true
  pub places : (begun_on constants_of only_morx LeftToRight).script_fallback_mark_positioning ≡ true
  pub zeroes_not : (begun_on (record constants_of { zero_width_marks = 0 }) no_tables LeftToRight).script_zero_marks ≡ false
  pub zeroes_late : (begun_on (record constants_of { zero_width_marks = 2 }) no_tables LeftToRight).script_zero_marks ≡ true
  pub places_not : (begun_on (record constants_of { fallback_position = false }) no_tables LeftToRight).script_fallback_mark_positioning
      ≡ false
  pub gsub_script : (begun_on constants_of no_tables LeftToRight).ot_map.gsub_script ≡ Some (tag 1)
  pub gpos_script : (begun_on constants_of no_tables LeftToRight).ot_map.gpos_script ≡ Some (tag 2)

pub used_shapers : UsedShapers
unfolding begun_planner
used_shapers = record {
  gives_way = refl;
  gives_way_rtl = refl;
  default_stays = refl;
  stays_vertical = refl;
  gives_way_vertical = refl;
  stays_without_morx = refl;
  morx = refl;
  no_morx_vertical = refl;
  zeroes = refl;
  places = refl;
  zeroes_not = refl;
  zeroes_late = refl;
  places_not = refl;
  gsub_script = refl;
  gpos_script = refl;
}

-- a plan of shaper 5, without script and language
abbrev pub planned_on : ShaperConstants → hb_tables_t → Direction → List Feature → Plan ℕ Builder (ℕ × Bool)
planned_on constants tables direction features = planned (planning_with constants) tables 5 direction None None features

pub record PlansOfFaces : Type 0 where
  -- under morx the shaper gives way: no hook, no data, but its preferences
  pub dumber : (planned_on constants_of only_morx LeftToRight []).shaper ≡ None
  pub dumber_data : (planned_on constants_of only_morx LeftToRight []).shaper_data ≡ None
  pub dumber_morx : (planned_on constants_of only_morx LeftToRight []).decisions.apply_morx ≡ true
  pub dumber_fallback : (planned_on constants_of only_morx LeftToRight []).decisions.apply_fallback_kern ≡ true
  pub dumber_zeroes : (planned_on constants_of only_morx LeftToRight []).decisions.zero_marks ≡ true
  pub dumber_places : (planned_on constants_of only_morx LeftToRight []).decisions.fallback_mark_positioning ≡ true
  pub dumber_moves_not : (planned_on constants_of only_morx LeftToRight []).decisions.adjust_mark_positioning_when_zeroing ≡ false
  pub dumber_asks_nothing : length (planned_on (record constants_of { has_collect_features = true; has_override_features = true })
      only_morx LeftToRight []).ot_map.requests ≡ 27
  -- vertical text of a face with GSUB keeps it
  pub stays : (planned_on constants_of morx_and_gsub TopToBottom []).shaper ≡ Some 5
  pub stays_data : (planned_on constants_of morx_and_gsub TopToBottom []).shaper_data ≡ Some (5, false)
  pub asks : length (planned_on (record constants_of { has_collect_features = true; has_override_features = true })
      no_tables LeftToRight []).ot_map.requests ≡ 29
  pub data_of_features : (planned_on constants_of no_tables LeftToRight (kern_off ∷ [])).shaper_data ≡ Some (6, false)
  -- what a shaper made for a plan can be told from the finished plan, which has the data by then
  pub own : own_data (planning_with constants_of) (planned_on constants_of no_tables LeftToRight (kern_off ∷ [])) ≡ Some (6, false)
  pub none_of_dumber : own_data (planning_with constants_of) (planned_on constants_of only_morx LeftToRight []) ≡ None
  pub no_data : (planned_on (record constants_of { has_create_data = false }) no_tables LeftToRight []).shaper_data ≡ None
  pub features : (planned_on constants_of no_tables LeftToRight (kern_off ∷ [])).user_features ≡ kern_off ∷ []

pub plans_of_faces : PlansOfFaces
unfolding begun_planner requested collected_planner facts_of decided compiled_plan planned
plans_of_faces = record {
  dumber = refl;
  dumber_data = refl;
  dumber_morx = refl;
  dumber_fallback = refl;
  dumber_zeroes = refl;
  dumber_places = refl;
  dumber_moves_not = refl;
  dumber_asks_nothing = refl;
  stays = refl;
  stays_data = refl;
  data_of_features = refl;
  own = refl;
  none_of_dumber = refl;
  asks = refl;
  no_data = refl;
  features = refl;
}

pub record MasksOfPlans : Type 0 where
  pub frac : (planned_on constants_of no_tables LeftToRight []).decisions.frac_mask ≡ 0x66726163
  pub numr : (planned_on constants_of no_tables LeftToRight []).decisions.numr_mask ≡ 0x6E756D72
  pub dnom : (planned_on constants_of no_tables LeftToRight []).decisions.dnom_mask ≡ 0x646E6F6D
  pub rtlm : (planned_on constants_of no_tables LeftToRight []).decisions.rtlm_mask ≡ 0x72746C6D
  pub kern : (planned_on constants_of no_tables RightToLeft []).decisions.kern_mask ≡ 2 * 0x6B65726E
  pub vkrn : (planned_on constants_of no_tables TopToBottom []).decisions.kern_mask ≡ 2 * 0x766B726E
  pub trak : (planned_on constants_of no_tables LeftToRight []).decisions.trak_mask ≡ 2 * 0x7472616B
  pub vert : (planned_on constants_of no_tables LeftToRight []).decisions.has_vert ≡ true
  pub mark : (planned_on constants_of no_tables LeftToRight []).decisions.has_gpos_mark ≡ true
  pub classes : (planned_on constants_of no_tables LeftToRight []).decisions.fallback_glyph_classes ≡ false

pub masks_of_plans : MasksOfPlans
unfolding begun_planner requested collected_planner facts_of decided compiled_plan planned
masks_of_plans = record {
  frac = refl;
  numr = refl;
  dnom = refl;
  rtlm = refl;
  kern = refl;
  vkrn = refl;
  trak = refl;
  vert = refl;
  mark = refl;
  classes = refl;
}

pub record ScriptsOfShapers : Type 0 where
  -- GPOS is left out if the shaper that is used is made for another script
  pub same : is_gpos_disabled {S = ℕ} (Some (tag 2)) (Some 5) (Some (tag 2)) ≡ false
  pub another : is_gpos_disabled {S = ℕ} (Some (tag 3)) (Some 5) (Some (tag 2)) ≡ true
  pub none_chosen : is_gpos_disabled {S = ℕ} (Some (tag 3)) (Some 5) None ≡ true
  pub no_tag : is_gpos_disabled {S = ℕ} None (Some 5) (Some (tag 2)) ≡ false
  pub gave_way : is_gpos_disabled {S = ℕ} (Some (tag 3)) None (Some (tag 2)) ≡ false
  -- the script chosen for GPOS counts, not that of GSUB
  pub of_gpos : (planned_on (record constants_of { gpos_tag = Some (tag 2) })
      (record no_tables { gpos = true }) LeftToRight []).decisions.apply_gpos ≡ true
  pub of_gsub : (planned_on (record constants_of { gpos_tag = Some (tag 1) })
      (record no_tables { gpos = true }) LeftToRight []).decisions.apply_gpos ≡ false

pub scripts_of_shapers : ScriptsOfShapers
unfolding begun_planner requested collected_planner facts_of decided compiled_plan planned
scripts_of_shapers = record {
  same = refl;
  another = refl;
  none_chosen = refl;
  no_tag = refl;
  gave_way = refl;
  of_gpos = refl;
  of_gsub = refl;
}
