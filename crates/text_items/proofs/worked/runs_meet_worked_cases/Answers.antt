use Rattle.text_items.specs.Worked.{worked_extensions, worked_own, worked_runs, worked_scripts}
use Rattle.text_items.specs.Worked.Texts.{worked_emoji, worked_texts}
use Rattle.text_items.proofs.worked.runs_meet_worked_cases.Goals as goal

pub returns-clause-own : goal.returns-clause-own
returns-clause-own c = worked_own

pub returns-clause-scripts : goal.returns-clause-scripts
returns-clause-scripts c = worked_scripts

pub returns-clause-extensions : goal.returns-clause-extensions
returns-clause-extensions c = worked_extensions

pub returns-clause-runs : goal.returns-clause-runs
returns-clause-runs c = worked_runs

pub returns-clause-emoji : goal.returns-clause-emoji
returns-clause-emoji c = worked_emoji

pub returns-clause-texts : goal.returns-clause-texts
returns-clause-texts c = worked_texts
