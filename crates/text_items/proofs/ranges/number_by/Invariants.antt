use Rattle.std.proofs.Common.{◌≡◌, drop}
use Rattle.text_items.specs.Ranges.{number_at}
use Rattle.text_items.proofs.ranges.number_by.Given as goal

abbrev pub invariant-loop-i : goal.invariant-loop-i
invariant-loop-i l = number_at (drop l.i l.ranges) l.offset ≡ number_at (drop l.fn.place l.ranges) l.offset
