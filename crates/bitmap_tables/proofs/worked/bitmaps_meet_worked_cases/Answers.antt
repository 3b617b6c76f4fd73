use Rattle.bitmap_tables.specs.Worked.Cbdt.{worked_images, worked_bitmaps}
use Rattle.bitmap_tables.proofs.worked.bitmaps_meet_worked_cases.Goals as goal

pub returns-clause-images : goal.returns-clause-images
returns-clause-images c = worked_images

pub returns-clause-bitmaps : goal.returns-clause-bitmaps
returns-clause-bitmaps c = worked_bitmaps
