use Rattle.apple_substitution.specs.Worked.Contexts.{worked_contexts, worked_current, worked_both, worked_mark_charges}
use Rattle.apple_substitution.proofs.worked.contexts_meet_worked_cases.Goals as goal

pub returns-clause-contexts : goal.returns-clause-contexts
returns-clause-contexts c = worked_contexts

pub returns-clause-current : goal.returns-clause-current
returns-clause-current c = worked_current

pub returns-clause-both : goal.returns-clause-both
returns-clause-both c = worked_both

pub returns-clause-charges : goal.returns-clause-charges
returns-clause-charges c = worked_mark_charges
