use Rattle.apple_substitution.specs.Worked.Rearranging.{worked_verbs, worked_spans, worked_merges}
use Rattle.apple_substitution.proofs.worked.rearranging_meets_worked_cases.Goals as goal

pub returns-clause-verbs : goal.returns-clause-verbs
returns-clause-verbs c = worked_verbs

pub returns-clause-spans : goal.returns-clause-spans
returns-clause-spans c = worked_spans

pub returns-clause-merges : goal.returns-clause-merges
returns-clause-merges c = worked_merges
