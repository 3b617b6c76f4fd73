use Rattle.std.proofs.Common.{map, All, ap, subst, IfOk}
use Rattle.text_lines.specs.Reach.{Reaches, reaches_in, size_of}
use Rattle.paragraph.specs.Reach.{reach_of_face}
use Rattle.paragraph.proofs.paragraph.Goals as goal

pub returns-clause-reach : goal.returns-clause-reach
returns-clause-reach c =
    let reaches = ap (map reach_of_face) c.new-shaper.ensures in
    subst (λ reaches. IfOk c.text_lines.result (λ lines. All (Reaches (reaches_in (size_of c.args.options.now.size reaches) reaches)) lines.items))
    reaches c.text_lines.ensures.reach
