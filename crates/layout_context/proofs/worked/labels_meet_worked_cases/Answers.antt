use Rattle.layout_context.specs.Worked.Labels.{worked_labels}
use Rattle.layout_context.proofs.worked.labels_meet_worked_cases.Goals as goal

pub returns : goal.returns
returns c = worked_labels
