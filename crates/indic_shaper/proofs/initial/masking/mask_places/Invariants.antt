use Rattle.std.proofs.Common.{◌≡◌, ◌++◌, take, drop, length}
use Rattle.indic_shaper.specs.Masking as masking
use Rattle.indic_shaper.specs.Places.{walked}
use Rattle.indic_shaper.proofs.initial.masking.mask_places.Given as goal

abbrev pub invariant-loop-i : goal.invariant-loop-i
invariant-loop-i l = record {
  left : take l.i l.items ++ walked (masking.masked_by l.facts) (masking.masked_after l.facts) l.masked (drop l.i l.items)
      ≡ masking.places_masked l.facts l.base l.fn.items;
  len : length l.items ≡ length l.fn.items;
}
