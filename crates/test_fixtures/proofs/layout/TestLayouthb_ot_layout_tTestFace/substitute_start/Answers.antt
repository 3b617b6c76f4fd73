use Rattle.std.proofs.Common.{rules}
use Rattle.test_fixtures.specs.Layouts.{with_class_of_face}
use Rattle.test_fixtures.proofs.layout.TestLayouthb_ot_layout_tTestFace.substitute_start.Goals as goal

pub returns : goal.returns
returns c map = c.update_items.ensures with_class_of_face (λ x y said. search rules)
