use Rattle.shape_font.specs.Worked.Glyphs.{worked_lists, worked_segments, worked_groups, worked_symbols, worked_metrics}
use Rattle.shape_font.specs.Worked.Lines.{worked_lines}
use Rattle.shape_font.proofs.worked.glyphs_meet_worked_cases.Goals as goal

pub returns-clause-lists : goal.returns-clause-lists
returns-clause-lists c = worked_lists

pub returns-clause-segments : goal.returns-clause-segments
returns-clause-segments c = worked_segments

pub returns-clause-groups : goal.returns-clause-groups
returns-clause-groups c = worked_groups

pub returns-clause-symbols : goal.returns-clause-symbols
returns-clause-symbols c = worked_symbols

pub returns-clause-metrics : goal.returns-clause-metrics
returns-clause-metrics c = worked_metrics

pub returns-clause-lines : goal.returns-clause-lines
returns-clause-lines c = worked_lines
