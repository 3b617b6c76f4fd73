use Rattle.std.proofs.Common.{rules}
use Rattle.shape_buffer.proofs.Steps.Runs.{Ran-made}
use Rattle.test_fixtures.specs.Layouts.{wider_by}
use Rattle.test_fixtures.proofs.layout.TestLayouthb_ot_layout_tTestFace.aat_position.Goals as goal

pub returns : goal.returns
returns c = Ran-made (search rules) (c.update_positions.ensures (wider_by c.args.face.now.kerx_adds) (λ x p q said. search rules))
