use Rattle.std.proofs.Common.{◌∙◌, arith}
use Rattle.std.proofs.lemmas.Bool.Decides.{nat_tests}
use Rattle.layout_positions.proofs.SubtableLemmas.{kind_alone}
use Rattle.layout_positions.proofs.subtables.apply_subtable.Goals.{in_default-via-then-subtable-lt3, in_default-via-else-subtable-lt3+else-subtable-lt7}
use Rattle.layout_positions.proofs.subtables.apply_subtable.Goals as goal

pub returns-in_default-clause-placed : goal.returns-in_default-clause-placed
returns-in_default-clause-placed c =
    let carried = c.args.carried.now in
    let made = c.apply_kind.ensures.placed carried.seen carried.left in
    elim c.in_default.branch [
      | in_default-via-then-subtable-lt3 w ↦ made ∙ kind_alone c.args.lookup.now c.args.subtable c.args.i c.args.buffer.now carried.seen carried.left
          (grind (arith, nat_tests)) (grind (arith, nat_tests))
      | in_default-via-else-subtable-lt3+else-subtable-lt7 w ↦ made ∙ kind_alone c.args.lookup.now c.args.subtable c.args.i c.args.buffer.now
          carried.seen carried.left (grind (arith, nat_tests)) (grind (arith, nat_tests))
    ]
