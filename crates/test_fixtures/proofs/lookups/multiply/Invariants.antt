use Rattle.std.proofs.Common.{◌≡◌, take}
use Rattle.std.specs.List.{flat_map}
use Rattle.test_fixtures.specs.Rules.{two_for_one}
use Rattle.test_fixtures.proofs.lookups.multiply.Given as goal

-- the items so far are emitted
abbrev pub invariant-loop-info : goal.invariant-loop-info
invariant-loop-info l = l.infos.items ≡ flat_map (two_for_one l.rule) (take l.info-index l.info-items)
