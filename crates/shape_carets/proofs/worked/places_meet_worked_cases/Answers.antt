use Rattle.shape_carets.proofs.PlaceRows.{worked_places, worked_nearest}
use Rattle.shape_carets.proofs.worked.places_meet_worked_cases.Goals as goal

pub returns-clause-places : goal.returns-clause-places
returns-clause-places c = worked_places

pub returns-clause-nearest : goal.returns-clause-nearest
returns-clause-nearest c = worked_nearest
