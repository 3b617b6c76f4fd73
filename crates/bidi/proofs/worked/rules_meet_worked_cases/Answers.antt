use Rattle.bidi.specs.Worked.Sequences.{worked_brackets, worked_sequences}
use Rattle.bidi.specs.Worked.{worked_classes, worked_explicit, worked_lines, worked_neutral, worked_weak}
use Rattle.bidi.proofs.worked.rules_meet_worked_cases.Goals as goal

pub returns-clause-classes : goal.returns-clause-classes
returns-clause-classes c = worked_classes

pub returns-clause-explicit : goal.returns-clause-explicit
returns-clause-explicit c = worked_explicit

pub returns-clause-weak : goal.returns-clause-weak
returns-clause-weak c = worked_weak

pub returns-clause-neutral : goal.returns-clause-neutral
returns-clause-neutral c = worked_neutral

pub returns-clause-lines : goal.returns-clause-lines
returns-clause-lines c = worked_lines

pub returns-clause-sequences : goal.returns-clause-sequences
returns-clause-sequences c = worked_sequences

pub returns-clause-brackets : goal.returns-clause-brackets
returns-clause-brackets c = worked_brackets
