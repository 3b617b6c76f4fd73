use Rattle.shape_lines.specs.Worked.Places.{worked_text_order}
use Rattle.shape_lines.proofs.PlaceRows.{worked_places}
use Rattle.shape_lines.proofs.worked.places_meet_worked_cases.Goals as goal

pub returns-clause-order : goal.returns-clause-order
returns-clause-order c = worked_text_order

pub returns-clause-places : goal.returns-clause-places
returns-clause-places c = worked_places
