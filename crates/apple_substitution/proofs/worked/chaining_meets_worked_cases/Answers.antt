use Rattle.apple_substitution.specs.Worked.Chaining.{worked_flags, worked_ranges, worked_coverage, worked_deleted, worked_language_flags}
use Rattle.apple_substitution.proofs.worked.chaining_meets_worked_cases.Goals as goal

pub returns-clause-flags : goal.returns-clause-flags
returns-clause-flags c = worked_flags

pub returns-clause-ranges : goal.returns-clause-ranges
returns-clause-ranges c = worked_ranges

pub returns-clause-coverage : goal.returns-clause-coverage
returns-clause-coverage c = worked_coverage

pub returns-clause-deleted : goal.returns-clause-deleted
returns-clause-deleted c = worked_deleted

pub returns-clause-languages : goal.returns-clause-languages
returns-clause-languages c = worked_language_flags
