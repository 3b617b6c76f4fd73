use Rattle.std.proofs.Common.{pos, length, ap, subst, ◌∙◌}
use Rattle.shape_lines.specs.LinesAt.{AreLinesFrom}
use Rattle.shape_lines.specs.Spots.{spots_of}
use Rattle.shape_lines.proofs.SpotLemmas.{length-spots_of}
use Rattle.shape_lines.proofs.allowed.cut_lines_at.Goals as goal

pub lines_of-requires-clause-as_many : goal.lines_of-requires-clause-as_many
lines_of-requires-clause-as_many c =
    ap length c.in_ok-measures.ensures.spots
    ∙ length-spots_of c.args.glyphs.now c.args.breaks.now.allowed.now c.args.breaks.now.mandatory.now c.args.breaks.now.spaces.now

pub returns-clause-lines : goal.returns-clause-lines
returns-clause-lines c =
    let b = c.args.glyphs.now in
    let end = c.args.text_end in
    let width = pos c.args.width in
    let lines = c.in_ok-lines_of.field-0.items in
    let ss = spots_of b c.args.breaks.now.allowed.now c.args.breaks.now.mandatory.now c.args.breaks.now.spaces.now in
    subst (λ any. AreLinesFrom b end any ss width 0 lines) c.in_ok-measures.ensures.anywhere
    (subst (λ l. AreLinesFrom b end c.in_ok-measures.measures.anywhere l width 0 lines) c.in_ok-measures.ensures.spots c.in_ok-lines_of.ensures)
