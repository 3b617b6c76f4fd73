use Rattle.layout_digests.specs.Worked.Digests.{worked_digests, worked_firsts}
use Rattle.layout_digests.proofs.worked.digests_meet_worked_cases.Goals as goal

pub returns-clause-digests : goal.returns-clause-digests
returns-clause-digests c = worked_digests

pub returns-clause-firsts : goal.returns-clause-firsts
returns-clause-firsts c = worked_firsts
