use Rattle.layout_context.specs.Worked.Contexts.{worked_rules, worked_classes, worked_chains, worked_chains_elsewhere, worked_mark_sets, worked_mark_classes, worked_syllables, worked_components}
use Rattle.layout_context.proofs.worked.contexts_meet_worked_cases.Goals as goal

pub returns-clause-rules : goal.returns-clause-rules
returns-clause-rules c = worked_rules

pub returns-clause-classes : goal.returns-clause-classes
returns-clause-classes c = worked_classes

pub returns-clause-chains : goal.returns-clause-chains
returns-clause-chains c = worked_chains

pub returns-clause-chains_elsewhere : goal.returns-clause-chains_elsewhere
returns-clause-chains_elsewhere c = worked_chains_elsewhere

pub returns-clause-mark_sets : goal.returns-clause-mark_sets
returns-clause-mark_sets c = worked_mark_sets

pub returns-clause-mark_classes : goal.returns-clause-mark_classes
returns-clause-mark_classes c = worked_mark_classes

pub returns-clause-syllables : goal.returns-clause-syllables
returns-clause-syllables c = worked_syllables

pub returns-clause-components : goal.returns-clause-components
returns-clause-components c = worked_components
