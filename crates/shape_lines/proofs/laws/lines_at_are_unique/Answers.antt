use Rattle.shape_lines.specs.Spots.{spots_of}
use Rattle.shape_lines.proofs.AtUniqueLemmas.{same_lines_at}
use Rattle.shape_lines.proofs.laws.lines_at_are_unique.Goals as goal

pub returns : goal.returns
returns c = λ b text_end allowed mandatory spaces anywhere width lines others are also.
    same_lines_at b text_end anywhere (spots_of b allowed mandatory spaces) width 0 lines others are also
