use Rattle.std.proofs.Common.{◌≡◌, ◌++◌, take, drop}
use Rattle.indic_shaper.specs.Masking as masking
use Rattle.indic_shaper.specs.Places.{walked}
use Rattle.indic_shaper.proofs.initial.masking.mask_joiners.Given as goal

-- from a place on all is done, and whether a ZWNJ keeps what is before it from half forms is known
abbrev pub invariant-loop-i : goal.invariant-loop-i
invariant-loop-i l = record {
  made : l.items ≡ take l.i l.fn.items ++ walked (masking.joiner_masked l.facts) masking.no_state tt (drop l.i l.fn.items);
  before : l.before ≡ masking.is_before_zwnj (drop l.i l.fn.items);
}
