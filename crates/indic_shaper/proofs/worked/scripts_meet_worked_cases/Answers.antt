use Rattle.indic_shaper.specs.Worked.Scripts.{worked_scripts, worked_facts, worked_features, worked_splits}
use Rattle.indic_shaper.proofs.worked.scripts_meet_worked_cases.Goals as goal

pub returns-clause-scripts : goal.returns-clause-scripts
returns-clause-scripts c = worked_scripts

pub returns-clause-facts : goal.returns-clause-facts
returns-clause-facts c = worked_facts

pub returns-clause-features : goal.returns-clause-features
returns-clause-features c = worked_features

pub returns-clause-splits : goal.returns-clause-splits
returns-clause-splits c = worked_splits
