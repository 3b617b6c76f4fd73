use Rattle.charstrings.specs.Worked.Runs.{worked_charstrings, worked_hints, worked_calls, worked_ends, worked_blends}
use Rattle.charstrings.proofs.worked.runs_meet_worked_cases.Goals as goal

pub returns-clause-charstrings : goal.returns-clause-charstrings
returns-clause-charstrings c = worked_charstrings

pub returns-clause-hints : goal.returns-clause-hints
returns-clause-hints c = worked_hints

pub returns-clause-calls : goal.returns-clause-calls
returns-clause-calls c = worked_calls

pub returns-clause-ends : goal.returns-clause-ends
returns-clause-ends c = worked_ends

pub returns-clause-blends : goal.returns-clause-blends
returns-clause-blends c = worked_blends
