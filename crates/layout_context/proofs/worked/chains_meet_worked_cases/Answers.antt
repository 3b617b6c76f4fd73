use Rattle.layout_context.specs.Worked.Chains.{worked_chained_glyphs, worked_nested, worked_deletions}
use Rattle.layout_context.proofs.worked.chains_meet_worked_cases.Goals as goal

pub returns-clause-chained_glyphs : goal.returns-clause-chained_glyphs
returns-clause-chained_glyphs c = worked_chained_glyphs

pub returns-clause-nested : goal.returns-clause-nested
returns-clause-nested c = worked_nested

pub returns-clause-deletions : goal.returns-clause-deletions
returns-clause-deletions c = worked_deletions
