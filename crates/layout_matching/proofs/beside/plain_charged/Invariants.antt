use Rattle.std.proofs.Common.{◌≡◌, ◌-◌, false, IfSome}
use Rattle.layout_tables.specs.Lookups.{subtable_count_of}
use Rattle.layout_matching.specs.Loops.{steps}
use Rattle.layout_matching.specs.Work.{charged_at_subtable, subtables_charged, passed, beside}
use Rattle.layout_matching.proofs.beside.plain_charged.Given as goal

-- what is left after the subtables from here on is what is left after all
abbrev pub invariant-loop-i : goal.invariant-loop-i
invariant-loop-i l = record {
  left : subtables_charged l.lookup l.items l.at l.fn.left
      ≡ steps (charged_at_subtable l.lookup l.items l.at) (subtable_count_of l.lookup.table.now l.lookup.place - l.i) l.i l.left;
  known : IfSome l.known (λ n. n ≡ passed l.lookup false l.items l.at (beside 0));
}
