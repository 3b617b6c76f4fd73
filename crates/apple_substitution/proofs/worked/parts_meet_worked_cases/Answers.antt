use Rattle.apple_substitution.specs.Worked.Parts.{worked_places, worked_ends, worked_part_runs}
use Rattle.apple_substitution.proofs.worked.parts_meet_worked_cases.Goals as goal

pub returns-clause-places : goal.returns-clause-places
returns-clause-places c = worked_places

pub returns-clause-ends : goal.returns-clause-ends
returns-clause-ends c = worked_ends

pub returns-clause-runs : goal.returns-clause-runs
returns-clause-runs c = worked_part_runs
