use Rattle.std.proofs.Common.{◌≡◌, ◌-◌, ℕ}
use Rattle.std.specs.Float.{Float}
use Rattle.font_variations.specs.Deltas.{part_of, sum_from, sum_of}
use Rattle.font_variations.proofs.deltas.sum.Given as goal

-- the sum from here on is the sum from the start
abbrev pub invariant-loop-column : goal.invariant-loop-column
invariant-loop-column l = let p : ℕ → Float = part_of l.store.bytes.now l.store.coordinates.now l.at l.start in
    sum_of l.store.bytes.now l.store.coordinates.now l.at l.start l.count ≡ sum_from p (l.count - l.column) l.column l.sum
