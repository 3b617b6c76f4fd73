use Rattle.std.proofs.Common.{◌≡◌, drop, Bool, is_some}
use Rattle.std.specs.List.{list_any}
use Rattle.layout_map.specs.Lookups.{gsub_index}
use Rattle.layout_map.specs.declared.features.FeatureMap.{FeatureMap}
use Rattle.layout_map.proofs.lookups.some_asks.Given as goal

abbrev pub invariant-loop-feature : goal.invariant-loop-feature
invariant-loop-feature l =
    let p : FeatureMap → Bool = λ f. is_some (gsub_index l.stage f) in
    list_any p (drop l.feature-index l.features) ≡ list_any p l.fn.features
