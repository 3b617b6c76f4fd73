use Rattle.myanmar_shaper.specs.Worked.Requests.{worked_requests}
use Rattle.myanmar_shaper.proofs.worked.requests_meet_worked_cases.Goals as goal

pub returns : goal.returns
returns c = worked_requests
