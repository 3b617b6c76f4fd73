-- Whether lookups would substitute exactly these glyphs if they stood alone
use Rattle.std.specs.Prelude.{ℕ, List, Bool, false}
use Rattle.std.specs.List.{list_any}
use Rattle.std.specs.Option.{option_map_or}
use Rattle.layout_map.specs.Map.{OtMap, stage_of}
use Rattle.layout_map.specs.Stages.{lookups_of}
use Rattle.layout_map.specs.declared.lookups.LookupMap.{LookupMap}
use Rattle.layout_substitution.specs.Would.{lookup_would}
use Rattle.layout_tables.specs.Lookups.{lookup_of}

-- a lookup of the table, by its index
abbrev pub index_would : List ℕ → List ℕ → Bool → ℕ → Bool
index_would t glyphs zero_context index = option_map_or (λ place. lookup_would t place glyphs zero_context) (lookup_of t index) false

abbrev pub some_would : List ℕ → List ℕ → Bool → List LookupMap → Bool
some_would t glyphs zero_context maps = list_any (λ (m : LookupMap). index_would t glyphs zero_context m.index) maps

-- one of the lookups in the stage of a feature: its own, and those of other features there
abbrev pub feature_would : List ℕ → OtMap → ℕ → List ℕ → Bool → Bool
feature_would t m tag glyphs zero_context =
    option_map_or (λ stage. some_would t glyphs zero_context (lookups_of m.gsub stage)) (stage_of m tag) false
