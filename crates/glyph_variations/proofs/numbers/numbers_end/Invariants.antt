use Rattle.std.proofs.Common.{◌≡◌, ◌≤◌, ◌+◌, ◌*◌}
use Rattle.glyph_variations.specs.Numbers as numbers
use Rattle.glyph_variations.specs.Sums as sums
use Rattle.glyph_variations.proofs.RunLemmas.{end_from}
use Rattle.glyph_variations.proofs.numbers.numbers_end.Given as goal

abbrev pub invariant-loop-to_go : goal.invariant-loop-to_go
invariant-loop-to_go l = record {
  read : end_from l.bytes l.to_go l.end ≡ sums.numbers_end l.bytes l.fn.at;
  near : l.end + 3 * l.to_go ≤ l.fn.at + 2 + 3 * numbers.count_of l.bytes l.fn.at;
}

abbrev pub decreases-loop-to_go : goal.decreases-loop-to_go
decreases-loop-to_go l = l.to_go
