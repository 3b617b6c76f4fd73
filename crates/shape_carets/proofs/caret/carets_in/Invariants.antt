use Rattle.std.proofs.Common.{◌≡◌, ℕ, ◌<◌, ◌≤◌, ◌++◌, drop, length, get_or}
use Rattle.shape_carets.specs.Carets.{carets_from, origin_of}
use Rattle.shape_carets.specs.Cells.{start_of}
use Rattle.shape_carets.proofs.caret.carets_in.Given as goal

abbrev pub invariant-loop-place : goal.invariant-loop-place
invariant-loop-place l = record {
  rest : l.carets.items ++ carets_from l.text_end l.stops l.x (drop l.place l.cells)
      ≡ carets_from l.text_end l.stops (origin_of l.backward l.cells) l.cells;
  within : l.next ≤ length l.stops;
  passed : (k : ℕ) → k < l.next → get_or l.stops k 0 < start_of l.text_end (drop l.place l.cells);
}
