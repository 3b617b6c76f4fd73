use Rattle.apple_substitution.specs.Worked.Ligating.{worked_stack, worked_numbers, worked_ligature, worked_left}
use Rattle.apple_substitution.specs.Worked.Ligating.{worked_actions, worked_too_little, worked_stores, worked_no_ligature}
use Rattle.apple_substitution.proofs.worked.ligating_meets_worked_cases.Goals as goal

pub returns-clause-stack : goal.returns-clause-stack
returns-clause-stack c = worked_stack

pub returns-clause-numbers : goal.returns-clause-numbers
returns-clause-numbers c = worked_numbers

pub returns-clause-actions : goal.returns-clause-actions
returns-clause-actions c = worked_actions

pub returns-clause-ligature : goal.returns-clause-ligature
returns-clause-ligature c = worked_ligature

pub returns-clause-left : goal.returns-clause-left
returns-clause-left c = worked_left

pub returns-clause-too_little : goal.returns-clause-too_little
returns-clause-too_little c = worked_too_little

pub returns-clause-stores : goal.returns-clause-stores
returns-clause-stores c = worked_stores

pub returns-clause-no_ligature : goal.returns-clause-no_ligature
returns-clause-no_ligature c = worked_no_ligature
