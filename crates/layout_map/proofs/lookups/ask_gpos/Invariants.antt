use Rattle.std.proofs.Common.{◌≡◌, drop, fold, List}
use Rattle.layout_map.specs.Lookups.{index_used, use_of}
use Rattle.layout_map.specs.declared.features.FeatureMap.{FeatureMap}
use Rattle.layout_map.specs.declared.lookups.LookupUse.{LookupUse}
use Rattle.layout_map.proofs.lookups.ask_gpos.Given as goal

abbrev pub invariant-loop-feature : goal.invariant-loop-feature
invariant-loop-feature l =
    let f : List LookupUse → FeatureMap → List LookupUse = λ uses f. index_used l.table (use_of f) uses f.gpos in
    fold f l.uses (drop l.feature-index l.features) ≡ fold f l.fn.uses l.features
