-- Features by their tags.
use Rattle.std.specs.Prelude.{ℕ, List, [], ◌∷◌, Option, Some, None, nat_eq, if◌then◌else◌}
use Rattle.layout_map.specs.declared.features.FeatureMap.{FeatureMap}

-- the first feature with a tag
abbrev pub tagged : ℕ → List FeatureMap → Option FeatureMap
tagged tag [] = None
tagged tag (f ∷ features) = if nat_eq f.tag tag then Some f else tagged tag features
