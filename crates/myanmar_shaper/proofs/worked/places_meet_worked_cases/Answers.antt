use Rattle.myanmar_shaper.specs.Worked.Places.{worked_places}
use Rattle.myanmar_shaper.proofs.worked.places_meet_worked_cases.Goals as goal

pub returns : goal.returns
returns c = worked_places
