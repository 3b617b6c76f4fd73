use Rattle.std.proofs.Common.{◌≡◌, ◌++◌, take, drop}
use Rattle.indic_shaper.specs.Attaching as attaching
use Rattle.indic_shaper.specs.Places.{walked}
use Rattle.indic_shaper.proofs.initial.attaching.own_signs.Given as goal

-- from a place on all is done, and who owns what is before it is known
abbrev pub invariant-loop-i : goal.invariant-loop-i
invariant-loop-i l = record {
  made : l.items ≡ take l.i l.fn.items ++ walked (attaching.owned l.base) attaching.next_place l.i (drop l.i l.fn.items);
  owner : l.owner ≡ attaching.owner (drop l.i l.fn.items);
}
