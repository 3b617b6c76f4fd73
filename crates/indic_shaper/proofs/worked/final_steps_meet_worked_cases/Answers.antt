use Rattle.indic_shaper.specs.Worked.Finals.{worked_bases, worked_matras, worked_rephs, worked_prefs, worked_words}
use Rattle.indic_shaper.proofs.worked.final_steps_meet_worked_cases.Goals as goal

pub returns-clause-bases : goal.returns-clause-bases
returns-clause-bases c = worked_bases

pub returns-clause-matras : goal.returns-clause-matras
returns-clause-matras c = worked_matras

pub returns-clause-rephs : goal.returns-clause-rephs
returns-clause-rephs c = worked_rephs

pub returns-clause-prefs : goal.returns-clause-prefs
returns-clause-prefs c = worked_prefs

pub returns-clause-words : goal.returns-clause-words
returns-clause-words c = worked_words
