use Rattle.arabic_stretching.specs.Worked.Tiles.{worked_tiles}
use Rattle.arabic_stretching.proofs.worked.tiles_meet_worked_cases.Goals as goal

pub returns : goal.returns
returns c = worked_tiles
