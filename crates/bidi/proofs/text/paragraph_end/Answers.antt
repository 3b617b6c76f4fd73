use Rattle.std.proofs.Common.{◌∙◌, sym, arith}
use Rattle.bidi.proofs.TextLemmas.{part_ends, part_goes_on}
use Rattle.bidi.proofs.text.paragraph_end.Goals as goal

pub returns-then-ends_paragraph-clause-part : goal.returns-then-ends_paragraph-clause-part
returns-then-ends_paragraph-clause-part c =
    part_ends c.args.text.now c.args.start c.loop-i.i c.loop-i.invariant.from (omega arith) c.loop-i.invariant.same
    (sym c.ends_paragraph.ensures ∙ c.if-ends_paragraph.true)

pub loop-i-preserved : goal.loop-i-preserved
loop-i-preserved c = record {
  from = omega arith;
  same = part_goes_on c.args.text.now c.args.start c.loop-i.i c.loop-i.invariant.from (omega arith) c.loop-i.invariant.same
      (sym c.ends_paragraph.ensures ∙ c.if-ends_paragraph.false);
}
