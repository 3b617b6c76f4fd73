use Rattle.shape_plan.specs.Worked.Decisions.{choices_of_faces, choices_for_marks, decisions_of_masks}
use Rattle.shape_plan.proofs.worked.decisions_meet_worked_cases.Goals as goal

pub returns : goal.returns
returns c = record { faces = choices_of_faces; marks = choices_for_marks; masks = decisions_of_masks }
