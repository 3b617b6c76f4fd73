-- A compiled map, and what it returns to the pipeline.
use Rattle.std.specs.Prelude.{ℕ, Bool, false, List, Option, length}
use Rattle.std.specs.Option.{option_map, option_map_or, option_and_then}
use Rattle.shape_buffer.specs.Layout.{MapMeaning}
use Rattle.shape_buffer.specs.declared.interfaces.map_request.MapRequest.{MapRequest}
use Rattle.shape_buffer.specs.declared.interfaces.map_request.TableIndex.{TableIndex}
use Rattle.shape_buffer.specs.declared.interfaces.map_request.TableIndex.TheVariants.{GSUB, GPOS}
use Rattle.layout_map.specs.Settings.{Collected, collected}
use Rattle.layout_map.specs.Chosen.{Chosen}
use Rattle.layout_map.specs.Features.{Allotment, allotted, is_listed, mask_of, shift_of, one_bit_of}
use Rattle.layout_map.specs.Lookups.{gpos_lookups}
use Rattle.layout_map.specs.Stages.{Staged, staged, pause_of}
use Rattle.layout_map.specs.Tagged.{tagged}
use Rattle.layout_map.specs.declared.features.FeatureMap.{FeatureMap}
use Rattle.layout_map.specs.declared.lookups.LookupMap.{LookupMap}

-- the features in order of their tags, the bits of values that are on everywhere, the stages of GSUB, the lookups of GPOS
pub record OtMap : Type 0 where
  pub features : List FeatureMap
  pub global : ℕ
  pub gsub : Staged
  pub gpos : List LookupMap

abbrev pub map_with : Chosen → Chosen → Collected → Allotment → OtMap
map_with gsub gpos c a = record {
  features = a.features;
  global = a.global;
  gsub = staged gsub a.features a.required_stage c.pauses;
  gpos = gpos_lookups gpos a.features;
}

-- what requests are compiled to
abbrev pub compiled : Chosen → Chosen → List MapRequest → OtMap
compiled gsub gpos requests = let c = collected (is_listed gsub gpos) requests in map_with gsub gpos c (allotted gsub gpos c.settings)

-- the feature with a tag
abbrev pub feature_of : OtMap → ℕ → Option FeatureMap
feature_of m tag = tagged tag m.features

abbrev pub mask_and_shift : FeatureMap → ℕ × ℕ
mask_and_shift f = (mask_of f.bits, shift_of f)

abbrev pub index_in : TableIndex → FeatureMap → Option ℕ
index_in GSUB f = f.gsub
index_in GPOS f = f.gpos

abbrev pub needs_fallback_of : OtMap → ℕ → Bool
needs_fallback_of m tag = option_map_or (λ f. f.needs_fallback) (feature_of m tag) false

-- the stage of a feature in GSUB
abbrev pub stage_of : OtMap → ℕ → Option ℕ
stage_of m tag = option_map (λ f. f.stage) (feature_of m tag)

-- a feature that the map lacks has an empty mask, and no index
abbrev pub map_meaning : OtMap → MapMeaning
map_meaning m = record {
  global_mask = mask_of m.global;
  one_mask = λ tag. option_map_or (λ f. mask_of (one_bit_of f)) (feature_of m tag.0) 0;
  mask = λ tag. option_map_or mask_and_shift (feature_of m tag.0) (0, 0);
  feature_index = λ table tag. option_and_then (index_in table) (feature_of m tag.0);
  stages = length m.gsub.stages;
  pause_after = pause_of m.gsub;
}
