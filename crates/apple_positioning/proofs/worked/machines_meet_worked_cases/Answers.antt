use Rattle.apple_positioning.specs.Worked.Machines.{worked_attachments, worked_stacks}
use Rattle.apple_positioning.proofs.worked.machines_meet_worked_cases.Goals as goal

pub returns-clause-attachments : goal.returns-clause-attachments
returns-clause-attachments c = worked_attachments

pub returns-clause-stacks : goal.returns-clause-stacks
returns-clause-stacks c = worked_stacks
