use Rattle.shape_users.proofs.ShownRows.{worked_shown}
use Rattle.shape_users.proofs.paragraph.shown_text_meets_worked_cases.Goals as goal

pub returns : goal.returns
returns c = worked_shown
