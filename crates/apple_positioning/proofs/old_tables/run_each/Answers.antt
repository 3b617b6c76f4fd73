use Rattle.std.proofs.Common.{◌∙◌, ◌+◌, ap, sym, nat_eq, arith}
use Rattle.kern_table.specs.Tables.{subtable_count_of}
use Rattle.apple_positioning.specs.OldTables.{ended, font_of}
use Rattle.apple_positioning.proofs.OldTableLemmas.{runs_ended, runs_on_step, runs_spent}
use Rattle.apple_positioning.proofs.old_tables.run_each.Goals as goal

pub returns-then-ends_table-clause-made : goal.returns-then-ends_table-clause-made
returns-then-ends_table-clause-made c = runs_ended (font_of c.args.table.now) (subtable_count_of c.args.table.now.kern.now) c.loop-i.i
    c.loop-i.start c.loop-i.is_chained c.loop-i.buffer _ (sym c.ends_table.ensures.value ∙ c.if-ends_table.true) c.loop-i.invariant.made

pub returns-then-not-charge-clause-made : goal.returns-then-not-charge-clause-made
returns-then-not-charge-clause-made c = ap (ended c.loop-i.is_chained) c.charge.ensures.made
    ∙ runs_spent (font_of c.args.table.now) (subtable_count_of c.args.table.now.kern.now) c.loop-i.i
    c.loop-i.start c.loop-i.is_chained c.loop-i.buffer _ (omega (arith, c.loop-i-test.true, c.subtable_count-count.ensures))
    (sym c.ends_table.ensures.value ∙ c.if-ends_table.false) c.if-not-charge.ensures.enough c.loop-i.invariant.made

pub loop-i-preserved : goal.loop-i-preserved
loop-i-preserved c = record {
  made = runs_on_step (font_of c.args.table.now) (subtable_count_of c.args.table.now.kern.now) c.loop-i.i
      c.loop-i.start _ c.loop-i.is_chained c.run_any-is_chained.result c.loop-i.buffer c.charge.new.buffer c.run_any-is_chained.new.buffer _
      c.stated_length-start.result (omega (arith, c.loop-i-test.true, c.subtable_count-count.ensures))
      (ap (λ n. nat_eq (c.loop-i.i + 1) n) c.subtable_count-count.ensures) (sym c.ends_table.ensures.value ∙ c.if-ends_table.false) c.if-not-charge.ensures.enough c.charge.ensures.made
      c.run_any-is_chained.ensures.made c.run_any-is_chained.ensures.chained c.stated_length-start.ensures.value c.loop-i.invariant.made;
  near = omega (arith, c.ends_table.ensures.near c.if-ends_table.false, c.stated_length-start.ensures.value);
  no_longer = omega (arith, c.run_any-is_chained.ensures.no_longer, c.charge.ensures.len, c.loop-i.invariant.no_longer);
  limit = c.run_any-is_chained.ensures.limit ∙ c.charge.ensures.limit ∙ c.loop-i.invariant.limit;
}
