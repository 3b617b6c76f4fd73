use Rattle.script_shapers.specs.Worked.ArabicRequests.{worked_requests}
use Rattle.script_shapers.proofs.arabic.requests_meet_worked_cases.Goals as goal

pub returns : goal.returns
returns c = worked_requests
