use Rattle.shape_glyphs.specs.Worked.Classes.{classes_of_glyphs}
use Rattle.shape_glyphs.specs.Worked.Lookups.{worked_lookups}
use Rattle.shape_glyphs.specs.Worked.Substitution.{worked_substitution}
use Rattle.shape_glyphs.proofs.worked.substitutions_meet_worked_cases.Goals as goal

pub returns : goal.returns
returns c = record { classes = classes_of_glyphs; steps = worked_substitution; lookups = worked_lookups }
