use Rattle.std.proofs.Common.{subst}
use Rattle.kern_table.specs.Pairs.{HoldSides}
use Rattle.kern_table.proofs.SideLemmas.{HoldSides-marked}
use Rattle.kern_table.proofs.sides.PairGlyphs.new.Goals as goal

pub returns-clause-ok : goal.returns-clause-ok
returns-clause-ok c =
    let read = c.read_subtable-subtable in
    let lefts = c.in_ok-marks.field-0.items in
    let rights = c.in_ok-marks-2.field-0.items in
    let there = HoldSides-marked read.result lefts rights read.ensures.so c.if-subtable-ne0.false c.in_ok-marks.ensures.ok c.in_ok-marks-2.ensures.ok in
    subst (λ t. HoldSides t 4 lefts rights) read.ensures.kern
    (subst (λ start. HoldSides read.result.kern.now start lefts rights) read.ensures.start there)
