use Rattle.bit_fields.specs.Worked.Fields.{fields_worked}
use Rattle.bit_fields.proofs.laws.fields_meet_worked_cases.Goals as goal

pub returns : goal.returns
returns c = fields_worked
