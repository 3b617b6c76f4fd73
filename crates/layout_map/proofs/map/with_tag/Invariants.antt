use Rattle.std.proofs.Common.{◌≡◌, drop}
use Rattle.layout_map.specs.Tagged.{tagged}
use Rattle.layout_map.proofs.map.with_tag.Given as goal

abbrev pub invariant-loop-feature : goal.invariant-loop-feature
invariant-loop-feature l = tagged l.tag (drop l.feature-index l.features) ≡ tagged l.tag l.fn.features
