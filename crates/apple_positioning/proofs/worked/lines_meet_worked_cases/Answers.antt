use Rattle.apple_positioning.specs.Worked.Lines.{worked_lines, worked_rises}
use Rattle.apple_positioning.proofs.worked.lines_meet_worked_cases.Goals as goal

pub returns-clause-lines : goal.returns-clause-lines
returns-clause-lines c = worked_lines

pub returns-clause-rises : goal.returns-clause-rises
returns-clause-rises c = worked_rises
