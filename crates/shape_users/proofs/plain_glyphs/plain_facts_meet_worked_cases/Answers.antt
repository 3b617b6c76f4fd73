use Rattle.shape_users.proofs.PlainRows.{worked_plain}
use Rattle.shape_users.proofs.PromisedRows.{worked_promises}
use Rattle.shape_users.proofs.plain_glyphs.plain_facts_meet_worked_cases.Goals as goal

pub returns : goal.returns
returns c = record { facts = worked_plain; promises = worked_promises }
