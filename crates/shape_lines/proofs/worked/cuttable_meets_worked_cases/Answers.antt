use Rattle.shape_lines.proofs.CanCutRows.{worked_can_cut, worked_cannot_cut}
use Rattle.shape_lines.proofs.worked.cuttable_meets_worked_cases.Goals as goal

pub returns-clause-can : goal.returns-clause-can
returns-clause-can c = worked_can_cut

pub returns-clause-cannot : goal.returns-clause-cannot
returns-clause-cannot c = worked_cannot_cut
