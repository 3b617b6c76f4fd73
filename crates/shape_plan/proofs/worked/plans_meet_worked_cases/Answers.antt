use Rattle.shape_plan.specs.Worked.Plans.{used_shapers, plans_of_faces, masks_of_plans, scripts_of_shapers}
use Rattle.shape_plan.proofs.worked.plans_meet_worked_cases.Goals as goal

pub returns : goal.returns
returns c = record { shapers = used_shapers; faces = plans_of_faces; masks = masks_of_plans; scripts = scripts_of_shapers }
