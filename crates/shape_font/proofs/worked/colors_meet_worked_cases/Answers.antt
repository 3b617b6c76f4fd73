use Rattle.shape_font.specs.Worked.Colors.{worked_colors, worked_layers}
use Rattle.shape_font.proofs.worked.colors_meet_worked_cases.Goals as goal

pub returns-clause-colors : goal.returns-clause-colors
returns-clause-colors c = worked_colors

pub returns-clause-layers : goal.returns-clause-layers
returns-clause-layers c = worked_layers
