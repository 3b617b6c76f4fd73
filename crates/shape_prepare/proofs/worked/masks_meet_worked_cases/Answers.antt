use Rattle.shape_prepare.specs.Worked.Fractions.{worked_fractions}
use Rattle.shape_prepare.specs.Worked.MaskSteps.{worked_masks}
use Rattle.shape_prepare.specs.Worked.Ranges.{worked_ranges}
use Rattle.shape_prepare.proofs.worked.masks_meet_worked_cases.Goals as goal

pub returns : goal.returns
returns c = record { fractions = worked_fractions; ranges = worked_ranges; steps = worked_masks }
