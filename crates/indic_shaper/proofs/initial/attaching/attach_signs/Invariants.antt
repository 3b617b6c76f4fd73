use Rattle.std.proofs.Common.{◌≡◌, ◌++◌, take, drop, length}
use Rattle.indic_shaper.specs.Attaching as attaching
use Rattle.indic_shaper.specs.Places.{walked}
use Rattle.indic_shaper.proofs.initial.attaching.attach_signs.Given as goal

-- what is done with what is left is what the whole list makes
abbrev pub invariant-loop-i : goal.invariant-loop-i
invariant-loop-i l = record {
  left : take l.i l.items ++ walked attaching.attached attaching.last_after l.last (drop l.i l.items)
      ≡ attaching.signs_attached l.fn.items;
  len : length l.items ≡ length l.fn.items;
}
