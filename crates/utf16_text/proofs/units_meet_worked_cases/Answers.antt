use Rattle.utf16_text.proofs.WorkedRows.{worked_units}
use Rattle.utf16_text.proofs.units_meet_worked_cases.Goals as goal

pub returns : goal.returns
returns c = worked_units
