use Rattle.shape_plan.specs.Worked.Runs.{rules_of_shapers, runs_of_plans, constants_of_shapers}
use Rattle.shape_plan.proofs.worked.runs_meet_worked_cases.Goals as goal

pub returns : goal.returns
returns c = record { rules = rules_of_shapers; runs = runs_of_plans; constants = constants_of_shapers }
