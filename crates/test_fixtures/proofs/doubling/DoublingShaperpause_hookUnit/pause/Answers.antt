use Rattle.std.proofs.Common.{rules}
use Rattle.shape_buffer.proofs.Steps.Runs.{Ran-made}
use Rattle.test_fixtures.specs.Doubling.{with_double}
use Rattle.test_fixtures.proofs.doubling.DoublingShaperpause_hookUnit.pause.Goals as goal

pub returns-then-n-eq7 : goal.returns-then-n-eq7
returns-then-n-eq7 g c = rw c.if-n-eq7.true (Ran-made (search rules) (c.update_items.ensures with_double (λ x y said. search rules)))
