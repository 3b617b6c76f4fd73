-- What engine and map are asked with, worked out by hand.
use Rattle.std.specs.Prelude.{◌≡◌, ◌+◌, ◌==◌, ℕ, true, false, List, [], ◌∷◌, length, Option, Some, None, refl, if◌then◌else◌}
use Rattle.std.specs.Option.{option_map_or}
use Rattle.shape_buffer.specs.Layout.{LayoutMeaning, MapMeaning}
use Rattle.shape_buffer.specs.MapBuilder.{Builder}
use Rattle.shape_common.specs.declared.text_types.Direction.{Direction}
use Rattle.shape_common.specs.declared.text_types.Direction.TheVariants.{LeftToRight, TopToBottom}
use Rattle.shape_common.specs.declared.text_types.Script.{Script}
use Rattle.shape_buffer.specs.declared.interfaces.map_request.TableIndex.TheVariants.{GSUB, GPOS}
use Rattle.shape_plan.specs.Plan.{known_script}
use Rattle.shape_plan.specs.Planner.{begun_planner, facts_of}
use Rattle.shape_plan.specs.Tags.{tag}
use Rattle.shape_plan.specs.Worked.Decisions.{no_tables}
use Rattle.shape_plan.specs.Worked.Plans.{layout_of, planning_with, constants_of, begun_on}
use Rattle.shape_plan.specs.Worked.Requests.{script_of, number_of_script}
use Rattle.shape_plan.specs.declared.decisions.PlanFacts.{PlanFacts}

-- an engine that tells script, language and table by the tag that it chooses
abbrev pub telling_layout : LayoutMeaning Builder
telling_layout = record layout_of {
  chosen_script = λ script language table. elim table [
    | GSUB ↦ Some (tag (number_of_script script + option_map_or length language 0))
    | GPOS ↦ Some
        (tag (1000 + number_of_script script + option_map_or length language 0))
  ];
}

-- the builder that script 100 and a language begin with
abbrev pub begun_in : Option (List ℕ) → Builder
begun_in language =
    (begun_planner (record (planning_with constants_of) { layouts = λ _. telling_layout })
    no_tables 5 LeftToRight (script_of 100) language).ot_map

abbrev pub german : Option (List ℕ)
german = Some (0x64 ∷ 0x65 ∷ [])

pub record ScriptsOfTexts : Type 0 where
  pub gsub : (begun_in german).gsub_script ≡ Some (tag 102)
  pub gpos : (begun_in german).gpos_script ≡ Some (tag 1102)
  pub gsub_without_language : (begun_in None).gsub_script ≡ Some (tag 100)
  pub gpos_without_language : (begun_in None).gpos_script ≡ Some (tag 1100)
  pub language : (begun_in german).language ≡ german
  pub no_language : (begun_in None).language ≡ None

pub scripts_of_texts : ScriptsOfTexts
unfolding begun_planner
scripts_of_texts = record {
  gsub = refl;
  gpos = refl;
  gsub_without_language = refl;
  gpos_without_language = refl;
  language = refl;
  no_language = refl;
}

-- masks and an index in GPOS for one tag alone: 8 for the value 1, 24 for all values
abbrev pub one_tag : ℕ → MapMeaning
one_tag number = record {
  global_mask = 0;
  one_mask = λ t. if t.0 == number then 8 else 0;
  mask = λ t. (if t.0 == number then 24 else 0, 3);
  feature_index = λ table t. elim table [ GSUB ↦ None | GPOS ↦ (if t.0 == number then Some 0 else None) ];
  stages = 0;
  pause_after = λ _. None;
}

abbrev pub facts_on : Direction → ℕ → PlanFacts
facts_on direction number = facts_of (planning_with constants_of) (begun_on constants_of no_tables direction) (one_tag number)

-- each fact depends on the mask or the index of one tag: vert, vkrn, mark, mkmk, kern, frac
pub record TagsOfFacts : Type 0 where
  pub vert : (facts_on TopToBottom 0x76657274).vert_mask ≡ 8
  pub vkrn_is_not_vert : (facts_on TopToBottom 0x766B726E).vert_mask ≡ 0
  pub mark : (facts_on LeftToRight 0x6D61726B).mark_mask ≡ 8
  pub mkmk_is_not_mark : (facts_on LeftToRight 0x6D6B6D6B).mark_mask ≡ 0
  pub kern : (facts_on LeftToRight 0x6B65726E).has_gpos_kern ≡ true
  pub mark_is_not_kern : (facts_on LeftToRight 0x6D61726B).has_gpos_kern ≡ false
  pub vkrn : (facts_on TopToBottom 0x766B726E).has_gpos_kern ≡ true
  pub kern_down : (facts_on TopToBottom 0x6B65726E).has_gpos_kern ≡ false
  pub kern_mask : (facts_on LeftToRight 0x6B65726E).kern_mask ≡ 24
  pub trak_mask : (facts_on LeftToRight 0x7472616B).trak_mask ≡ 24
  pub frac_mask : (facts_on LeftToRight 0x66726163).frac_mask ≡ 8
  pub numr_mask : (facts_on LeftToRight 0x6E756D72).numr_mask ≡ 8
  pub dnom_mask : (facts_on LeftToRight 0x646E6F6D).dnom_mask ≡ 8
  pub rtlm_mask : (facts_on LeftToRight 0x72746C6D).rtlm_mask ≡ 8

pub tags_of_facts : TagsOfFacts
unfolding begun_planner facts_of
tags_of_facts = record {
  vert = refl;
  vkrn_is_not_vert = refl;
  mark = refl;
  mkmk_is_not_mark = refl;
  kern = refl;
  mark_is_not_kern = refl;
  vkrn = refl;
  kern_down = refl;
  kern_mask = refl;
  trak_mask = refl;
  frac_mask = refl;
  numr_mask = refl;
  dnom_mask = refl;
  rtlm_mask = refl;
}

abbrev pub tag_script : ℕ → Script
tag_script number = record { 0 = tag number }

-- Zzzz if there is no script
pub record ScriptsThatFit : Type 0 where
  pub none : known_script None ≡ tag_script 0x5A7A7A7A
  pub some : known_script (script_of 100) ≡ tag_script 100

pub scripts_that_fit : ScriptsThatFit
scripts_that_fit = record { none = refl; some = refl }
