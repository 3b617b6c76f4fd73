use Rattle.apple_substitution.specs.Worked.Inserting.{worked_wanted, worked_insert_at, worked_current_inserted, worked_passed}
use Rattle.apple_substitution.specs.Worked.Inserting.{worked_marked_inserted, worked_both_inserted, worked_empty}
use Rattle.apple_substitution.proofs.worked.inserting_meets_worked_cases.Goals as goal

pub returns-clause-wanted : goal.returns-clause-wanted
returns-clause-wanted c = worked_wanted

pub returns-clause-insert_at : goal.returns-clause-insert_at
returns-clause-insert_at c = worked_insert_at

pub returns-clause-current : goal.returns-clause-current
returns-clause-current c = worked_current_inserted

pub returns-clause-passed : goal.returns-clause-passed
returns-clause-passed c = worked_passed

pub returns-clause-marked : goal.returns-clause-marked
returns-clause-marked c = worked_marked_inserted

pub returns-clause-both : goal.returns-clause-both
returns-clause-both c = worked_both_inserted

pub returns-clause-empty : goal.returns-clause-empty
returns-clause-empty c = worked_empty
