use Rattle.std.proofs.Common.{◌≡◌, ◌-◌, ℕ}
use Rattle.cff_tables.specs.Select.{halved, next_is_past, range_of}
use Rattle.cff_tables.proofs.select.range_of.Given as goal

-- what is found from here on is what is found from the start
abbrev pub invariant-loop-from : goal.invariant-loop-from
invariant-loop-from l = halved (next_is_past l.table l.format l.at l.glyph) (l.to - l.from) l.from l.to ≡ range_of l.table l.format l.at l.count l.glyph

abbrev pub decreases-loop-from : goal.decreases-loop-from
decreases-loop-from l = l.to - l.from
