use Rattle.std.proofs.Common.{◌≡◌, length, false}
use Rattle.indic_shaper.specs.Bases as bases
use Rattle.indic_shaper.proofs.initial.base.base_from.Given as goal

-- what is found from here on down is what is found from the end
abbrev pub invariant-loop-i : goal.invariant-loop-i
invariant-loop-i l = record {
  left : bases.base_from l.items l.limit l.seen_below l.base l.i ≡ bases.base_from l.items l.limit false l.none (length l.items);
}
