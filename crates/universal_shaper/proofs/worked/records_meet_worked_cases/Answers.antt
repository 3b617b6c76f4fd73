use Rattle.universal_shaper.specs.Worked.Records.{worked_records}
use Rattle.universal_shaper.proofs.worked.records_meet_worked_cases.Goals as goal

pub returns : goal.returns
returns c = worked_records
