-- What a run and normalising depend on, worked out by hand: hooks count if they are given and the plan uses its
-- shaper, and all else comes from the plan and the face.
use Rattle.std.specs.Prelude.{◌≡◌, ◌+◌, ℕ, pos, neg_ℤ, true, false, [], ◌∷◌, Option, Some, None, is_some, refl}
use Rattle.shape_items.specs.Buffer.{Buffer, new_buffer}
use Rattle.shape_common.specs.Face.{FaceMeaning}
use Rattle.shape_buffer.specs.Layout.{LookupMeaning}
use Rattle.shape_common.specs.PlainUnicode.{plain_unicode}
use Rattle.shape_common.specs.Unicode.{UnicodeMeaning}
use Rattle.shape_common.specs.declared.text_types.Direction.TheVariants.{RightToLeft}
use Rattle.shape_plan.specs.Preservation.{has_steps}
use Rattle.shape_plan.specs.ModeNames.{MODE_DECOMPOSED}
use Rattle.shape_plan.specs.Plan.{Plan}
use Rattle.shape_plan.specs.Rules.{Rules, rules_of, rules_without_shaper}
use Rattle.shape_plan.specs.Run.{Run, run_of}
use Rattle.shape_plan.specs.Shaper.{ShaperConstants, HookMeaning, is_preference, is_zero_width_type}
use Rattle.shape_plan.specs.Shapers.{no_hooks}
use Rattle.shape_plan.specs.Worked.Faces.{bare_face, masks_of}
use Rattle.shape_plan.specs.Worked.Plans.{constants_of}
use Rattle.shape_plan.specs.Worked.Requests.{script_of, kern_off}

-- Unicode splits each character into itself and 1, and composes two characters to their sum; ccc and height tell the
-- character
abbrev pub telling_unicode : UnicodeMeaning
telling_unicode = record plain_unicode { split = λ c. Some (c, 1); height = λ c. c + 1; compose = λ a b. Some (a + b); ccc = λ c. c }

-- hooks that tell shaper, compiled lookups and face
abbrev pub telling_hooks : ℕ → Plan ℕ ℕ ℕ → ℕ → HookMeaning
telling_hooks shaper plan face = record (no_hooks telling_unicode) {
  split = λ c. Some (shaper + plan.ot_map, face);
  height = λ c. shaper + plan.ot_map + face;
  compose = λ a b. Some (shaper + plan.ot_map + face);
  reorder = λ b start end. record b { length_limit = Some (shaper + plan.ot_map + face + start + end) };
}

-- a face that tells its number by its units, and lookups that tell the map, the face and the stage by the limit that
-- they leave
abbrev pub telling_face : ℕ → FaceMeaning
telling_face face = record bare_face { units_per_em = face }

abbrev pub marked_by : ℕ → Buffer → Buffer
marked_by number b = record b { length_limit = Some number }

abbrev pub telling_lookups : ℕ → ℕ → LookupMeaning
telling_lookups map face = record {
  would_substitute = λ tag glyphs zero_context. zero_context;
  substitute_start = marked_by (map + face);
  stage = λ i. marked_by (map + face + i);
  aat_substitute = λ features. marked_by 0;
  aat_remove_deleted = marked_by 0;
  aat_zero_width_deleted = marked_by 0;
  position_start = marked_by 0;
  position = marked_by 0;
  position_finish_advances = marked_by 0;
  position_finish_offsets = marked_by 0;
  aat_position = λ mask. marked_by 0;
  kern = λ mask. marked_by 0;
  aat_track = λ mask. marked_by 0;
}

-- a plan of map 30 for a text of script 100 from right to left, with one feature of the user's; it uses shaper 5, or
-- none
abbrev pub of_plan : Plan ℕ ℕ ℕ → Option ℕ → Plan ℕ ℕ ℕ
of_plan plan shaper = record plan {
  direction = RightToLeft;
  script = script_of 100;
  shaper = shaper;
  ot_map = 30;
  user_features = kern_off ∷ [];
}

-- the constants of a shaper that gives the three hooks of normalising, and of one that gives none
abbrev pub giving : ShaperConstants
giving = record constants_of { has_decompose = true; has_compose = true; has_reorder_marks = true; preference = MODE_DECOMPOSED }

abbrev pub rules_by : ShaperConstants → Option ℕ → Plan ℕ ℕ ℕ → Rules
rules_by constants shaper plan = rules_of telling_unicode constants telling_hooks telling_face (of_plan plan shaper) 200

-- what `reorder_marks` from 1 up to 3 makes of a limit, if it counts
abbrev pub reordered : Rules → Option ℕ
reordered rules = elim rules.reorder [ None ↦ None | Some reorder ↦ (reorder new_buffer 1 3).length_limit ]

pub record RulesOfShapers (plan : Plan ℕ ℕ ℕ) : Type 0 where
  pub split : (rules_by giving (Some 5) plan).split 7 ≡ Some (35, 200)
  pub split_not_given : (rules_by constants_of (Some 5) plan).split 7 ≡ Some (7, 1)
  pub split_not_used : (rules_by giving None plan).split 7 ≡ Some (7, 1)
  pub height : (rules_by giving (Some 5) plan).height 7 ≡ 235
  pub height_not_given : (rules_by constants_of (Some 5) plan).height 7 ≡ 8
  pub height_not_used : (rules_by giving None plan).height 7 ≡ 8
  pub compose : (rules_by giving (Some 5) plan).compose 7 20 ≡ Some 235
  pub compose_not_given : (rules_by constants_of (Some 5) plan).compose 7 20 ≡ Some 27
  pub compose_not_used : (rules_by giving None plan).compose 7 20 ≡ Some 27
  -- each hook counts by itself
  pub split_alone : (rules_by (record giving { has_compose = false }) (Some 5) plan).compose 7 20 ≡ Some 27
  pub compose_alone : (rules_by (record giving { has_decompose = false }) (Some 5) plan).split 7 ≡ Some (7, 1)
  pub height_alone : (rules_by (record giving { has_decompose = false }) (Some 5) plan).height 7 ≡ 8
  pub reorder : reordered (rules_by giving (Some 5) plan) ≡ Some 239
  pub reorder_not_given : is_some (rules_by constants_of (Some 5) plan).reorder ≡ false
  pub reorder_not_used : is_some (rules_by giving None plan).reorder ≡ false
  pub ccc : (rules_by giving (Some 5) plan).unicode.ccc 9 ≡ 9
  pub face : (rules_by giving (Some 5) plan).face.units_per_em ≡ 200
  -- mode DECOMPOSED goes short nowhere and composes nothing; without the shaper the mode is AUTO
  pub short : (rules_by giving (Some 5) plan).short false ≡ false
  pub short_not_used : (rules_by giving None plan).short false ≡ true
  pub recomposes : (rules_by giving (Some 5) plan).recomposes ≡ false
  pub recomposes_not_used : (rules_by giving None plan).recomposes ≡ true
  -- without any shaper: as if it isn't used
  pub without : rules_by giving None plan ≡ rules_without_shaper telling_unicode (telling_face 200)

pub rules_of_shapers : (plan : Plan ℕ ℕ ℕ) → RulesOfShapers plan
rules_of_shapers plan = record {
  split = refl;
  split_not_given = refl;
  split_not_used = refl;
  height = refl;
  height_not_given = refl;
  height_not_used = refl;
  compose = refl;
  compose_not_given = refl;
  compose_not_used = refl;
  split_alone = refl;
  compose_alone = refl;
  height_alone = refl;
  reorder = refl;
  reorder_not_given = refl;
  reorder_not_used = refl;
  ccc = refl;
  face = refl;
  short = refl;
  short_not_used = refl;
  recomposes = refl;
  recomposes_not_used = refl;
  without = refl;
}

abbrev pub run_by : Option ℕ → Plan ℕ ℕ ℕ → Run
run_by shaper plan = run_of telling_unicode masks_of telling_lookups giving telling_hooks telling_face (of_plan plan shaper) 200

-- what a stage leaves of a limit
abbrev pub stage_of : Run → ℕ → Option ℕ
stage_of run i = (run.lookups.stage i new_buffer).length_limit

-- the height that the run's hooks tell, if it has hooks
abbrev pub hook_height : Run → Option ℕ
hook_height run = elim run.hooks [ None ↦ None | Some hooks ↦ Some (hooks.height 7) ]

pub record RunsOfPlans (plan : Plan ℕ ℕ ℕ) : Type 0 where
  pub unicode : (run_by (Some 5) plan).unicode.ccc 9 ≡ 9
  pub face : (run_by (Some 5) plan).face.units_per_em ≡ 200
  pub map : (run_by (Some 5) plan).map ≡ masks_of 30
  pub lookups : stage_of (run_by (Some 5) plan) 3 ≡ Some 233
  pub constants : (run_by (Some 5) plan).constants ≡ giving
  pub hooks : hook_height (run_by (Some 5) plan) ≡ Some 235
  pub hooks_not_used : hook_height (run_by None plan) ≡ None
  pub direction : (run_by (Some 5) plan).direction ≡ RightToLeft
  pub script : (run_by (Some 5) plan).script ≡ script_of 100
  pub decisions : (run_by (Some 5) plan).decisions ≡ plan.decisions
  pub user_features : (run_by (Some 5) plan).user_features ≡ kern_off ∷ []
  pub rules : (run_by (Some 5) plan).rules ≡ rules_by giving (Some 5) plan

pub runs_of_plans : (plan : Plan ℕ ℕ ℕ) → RunsOfPlans plan
runs_of_plans plan = record {
  unicode = refl;
  face = refl;
  map = refl;
  lookups = refl;
  constants = refl;
  hooks = refl;
  hooks_not_used = refl;
  direction = refl;
  script = refl;
  decisions = refl;
  user_features = refl;
  rules = refl;
}

-- constants at the limits of what every shaper must provide, and which hooks are steps of a run
pub record ConstantsOfShapers : Type 0 where
  pub least_mode : is_preference (pos 0) ≡ true
  pub greatest_mode : is_preference (pos 4) ≡ true
  pub below : is_preference (neg_ℤ (pos 1)) ≡ false
  pub above : is_preference (pos 5) ≡ false
  pub greatest_time : is_zero_width_type 2 ≡ true
  pub no_time : is_zero_width_type 3 ≡ false
  pub no_step : has_steps giving ≡ false
  pub preprocess : has_steps (record constants_of { has_preprocess_text = true }) ≡ true
  pub setup_masks : has_steps (record constants_of { has_setup_masks = true }) ≡ true
  pub postprocess : has_steps (record constants_of { has_postprocess_glyphs = true }) ≡ true
  pub pause : has_steps (record constants_of { has_pause = true }) ≡ true

pub constants_of_shapers : ConstantsOfShapers
constants_of_shapers = record {
  least_mode = refl;
  greatest_mode = refl;
  below = refl;
  above = refl;
  greatest_time = refl;
  no_time = refl;
  no_step = refl;
  preprocess = refl;
  setup_masks = refl;
  postprocess = refl;
  pause = refl;
}
