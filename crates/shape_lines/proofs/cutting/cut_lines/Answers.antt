use Rattle.std.proofs.Common.{pos}
use Rattle.shape_lines.proofs.RightLineLemmas.{right_from}
use Rattle.shape_lines.proofs.cutting.cut_lines.Goals as goal

pub returns-clause-lines : goal.returns-clause-lines
returns-clause-lines c =
    right_from c.args.glyphs.now c.args.text_end c.requires (pos c.args.width) 0 c.in_ok-walked_lines.field-0.items c.in_ok-walked_lines.ensures
