use Rattle.std.proofs.Common.{rules}
use Rattle.shape_buffer.proofs.Steps.Runs.{Ran-made}
use Rattle.test_fixtures.specs.Rules.{added, one_for_one}
use Rattle.test_fixtures.proofs.lookups.run_stage.Goals as goal

pub returns-in-Add : goal.returns-in-Add
returns-in-Add c = rw c.in-Add.is (Ran-made c.requires (c.update_items.ensures (added c.in-Add.number) (λ x y said. search rules)))

pub returns-in-Single : goal.returns-in-Single
returns-in-Single c =
    rw c.in-Single.is (Ran-made c.requires (c.update_items-in-Single.ensures (one_for_one c.in-Single.rule) (λ x y said. search rules)))
