use Rattle.khmer_shaper.specs.Worked.Requests.{worked_requests}
use Rattle.khmer_shaper.proofs.worked.requests_meet_worked_cases.Goals as goal

pub returns : goal.returns
returns c = worked_requests
