use Rattle.std.proofs.Common.{rules}
use Rattle.test_fixtures.specs.Doubling.{with_bit}
use Rattle.test_fixtures.proofs.doubling.DoublingShapersetup_masks_hookUnit.setup_masks.Goals as goal

pub returns : goal.returns
returns g c = c.update_items.ensures with_bit (λ x y said. search rules)
