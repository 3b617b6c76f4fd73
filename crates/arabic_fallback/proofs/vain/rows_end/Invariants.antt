use Rattle.std.proofs.Common.{◌≡◌, drop, fold}
use Rattle.arabic_fallback.specs.Vain.{with_row, rows_end}
use Rattle.arabic_fallback.proofs.vain.rows_end.Given as goal

abbrev pub invariant-loop-row : goal.invariant-loop-row
invariant-loop-row l = record {
  made : (fold (with_row l.rule l.only l.infos l.at) l.tried (drop l.row-index l.rows)).end ≡ rows_end l.rule l.only l.rows l.infos l.at;
}
