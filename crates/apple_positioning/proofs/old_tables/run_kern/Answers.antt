use Rattle.std.proofs.Common.{◌∙◌, sym, arith}
use Rattle.apple_positioning.specs.OldTables.{font_of}
use Rattle.apple_positioning.proofs.OldTableLemmas.{run_of_pairs}
use Rattle.apple_positioning.proofs.old_tables.run_kern.Goals as goal

pub returns-then-not-has_across : goal.returns-then-not-has_across
returns-then-not-has_across c = record {
  made = c.kern_table_by.ensures.made ∙ run_of_pairs (font_of c.args.table.now) c.args.buffer.now
      (sym c.has_machine.ensures ∙ c.if-not-has_machine.true) (sym c.has_across.ensures ∙ c.if-not-has_across.true);
  no_longer = omega (arith, c.kern_table_by.ensures.len);
  same_limit = c.kern_table_by.ensures.limit;
}
