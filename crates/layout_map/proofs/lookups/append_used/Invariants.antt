use Rattle.std.proofs.Common.{◌≡◌, ◌++◌, drop}
use Rattle.layout_map.specs.Lookups.{used_from}
use Rattle.layout_map.proofs.lookups.append_used.Given as goal

abbrev pub invariant-loop-i : goal.invariant-loop-i
invariant-loop-i l = l.lookups.items ++ used_from l.i (drop l.i l.uses) ≡ l.fn.lookups.items ++ used_from 0 l.uses
