use Rattle.layout_context.specs.Worked.Steps.{worked_steps, worked_stages}
use Rattle.layout_context.proofs.worked.steps_meet_worked_cases.Goals as goal

pub returns-clause-steps : goal.returns-clause-steps
returns-clause-steps c = worked_steps

pub returns-clause-stages : goal.returns-clause-stages
returns-clause-stages c = worked_stages
