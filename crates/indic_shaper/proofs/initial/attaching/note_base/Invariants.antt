use Rattle.std.proofs.Common.{◌≡◌, ◌++◌, take, drop, length}
use Rattle.indic_shaper.specs.Attaching as attaching
use Rattle.indic_shaper.specs.Places.{walked}
use Rattle.indic_shaper.proofs.initial.attaching.note_base.Given as goal

-- what is done with what is left is what the whole list makes
abbrev pub invariant-loop-i : goal.invariant-loop-i
invariant-loop-i l = record {
  left : take l.i l.items ++ walked (attaching.noted l.found) attaching.next_place l.i (drop l.i l.items)
      ≡ attaching.base_noted l.found l.fn.items;
  len : length l.items ≡ length l.fn.items;
}
