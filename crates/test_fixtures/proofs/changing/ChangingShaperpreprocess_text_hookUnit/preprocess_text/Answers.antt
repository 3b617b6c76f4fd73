use Rattle.std.proofs.Common.{rules}
use Rattle.shape_buffer.proofs.Steps.Runs.{Ran-made}
use Rattle.test_fixtures.specs.Changing.{changed}
use Rattle.test_fixtures.proofs.changing.ChangingShaperpreprocess_text_hookUnit.preprocess_text.Goals as goal

pub returns : goal.returns
returns g c = Ran-made (search rules) (c.update_items.ensures changed (λ x y said. search rules))
