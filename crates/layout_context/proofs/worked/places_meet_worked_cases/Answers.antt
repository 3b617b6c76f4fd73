use Rattle.layout_context.specs.Worked.Places.{worked_places}
use Rattle.layout_context.proofs.worked.places_meet_worked_cases.Goals as goal

pub returns : goal.returns
returns c = worked_places
