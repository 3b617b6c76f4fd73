-- The stages of substitution: the lookups up to each pause.
use Rattle.std.specs.Prelude.{ℕ, ◌-◌, List, [], ◌∷◌, ◌++◌, Option, None, fold, length, min, nat_eq, slice_get, slice_range, if◌then◌else◌}
use Rattle.std.specs.Option.{option_and_then, option_map_or}
use Rattle.layout_map.specs.Chosen.{Chosen}
use Rattle.layout_map.specs.Lookups.{gsub_lookups}
use Rattle.layout_map.specs.declared.features.FeatureMap.{FeatureMap}
use Rattle.layout_map.specs.declared.lookups.LookupMap.{LookupMap}
use Rattle.layout_map.specs.declared.stages.StageMap.{StageMap}

-- the lookups of the stages so far, one stage after the other, and the stages
pub record Staged : Type 0 where
  pub lookups : List LookupMap
  pub stages : List StageMap

-- one more stage, before a pause
abbrev pub with_stage : Chosen → List FeatureMap → ℕ → Staged → Option ℕ → Staged
with_stage gsub features required_stage s pause =
    let lookups = s.lookups ++ gsub_lookups gsub features required_stage (length s.stages) in
    record { lookups = lookups; stages = s.stages ++ (record { end = length lookups; pause = pause }) ∷ [] }

abbrev pub no_stages : Staged
no_stages = record { lookups = []; stages = [] }

-- a stage before each pause, and one after the last pause
abbrev pub staged : Chosen → List FeatureMap → ℕ → List (Option ℕ) → Staged
staged gsub features required_stage pauses = let step = with_stage gsub features required_stage in
    step (fold step no_stages pauses) None

-- where stage `i` ends in the list of lookups, and where it begins: where the one before it ends
abbrev pub end_of : Staged → ℕ → ℕ
end_of s i = min (option_map_or (λ stage. stage.end) (slice_get s.stages i) 0) (length s.lookups)

abbrev pub start_of : Staged → ℕ → ℕ
start_of s i = min (if nat_eq i 0 then 0 else end_of s (i - 1)) (end_of s i)

-- the lookups of stage `i`; none past the last one
abbrev pub lookups_of : Staged → ℕ → List LookupMap
lookups_of s i = slice_range s.lookups (start_of s i) (end_of s i)

-- the number of the pause after stage `i`, if it has one
abbrev pub pause_of : Staged → ℕ → Option ℕ
pause_of s i = option_and_then (λ stage. stage.pause) (slice_get s.stages i)
