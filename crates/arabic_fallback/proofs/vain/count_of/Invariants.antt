use Rattle.std.proofs.Common.{◌≡◌, ◌≤◌, drop, fold}
use Rattle.arabic_fallback.specs.Vain.{with_first, count_of}
use Rattle.arabic_fallback.proofs.vain.count_of.Given as goal

abbrev pub invariant-loop-row : goal.invariant-loop-row
invariant-loop-row l = record {
  made : fold (with_first l.glyph) l.count (drop l.row-index l.rows) ≡ count_of l.rows l.glyph;
  few : l.count ≤ l.row-index;
}
