use Rattle.layout_context.specs.Worked.Marks.{worked_vain_ligatures, worked_vain_rules, worked_random, worked_ids, worked_ops}
use Rattle.layout_context.proofs.worked.marks_meet_worked_cases.Goals as goal

pub returns-clause-vain_ligatures : goal.returns-clause-vain_ligatures
returns-clause-vain_ligatures c = worked_vain_ligatures

pub returns-clause-vain_rules : goal.returns-clause-vain_rules
returns-clause-vain_rules c = worked_vain_rules

pub returns-clause-random : goal.returns-clause-random
returns-clause-random c = worked_random

pub returns-clause-ids : goal.returns-clause-ids
returns-clause-ids c = worked_ids

pub returns-clause-ops : goal.returns-clause-ops
returns-clause-ops c = worked_ops
