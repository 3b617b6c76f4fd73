use Rattle.apple_substitution.specs.Worked.Languages.{worked_names, worked_letters, worked_matches}
use Rattle.apple_substitution.proofs.worked.languages_meet_worked_cases.Goals as goal

pub returns-clause-names : goal.returns-clause-names
returns-clause-names c = worked_names

pub returns-clause-letters : goal.returns-clause-letters
returns-clause-letters c = worked_letters

pub returns-clause-matches : goal.returns-clause-matches
returns-clause-matches c = worked_matches
