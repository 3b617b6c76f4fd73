use Rattle.shape_lines.proofs.UniqueLemmas.{same_lines}
use Rattle.shape_lines.proofs.laws.right_lines_are_unique.Goals as goal

pub returns : goal.returns
returns c = λ b text_end width lines others are also. same_lines b text_end width 0 lines others are also
