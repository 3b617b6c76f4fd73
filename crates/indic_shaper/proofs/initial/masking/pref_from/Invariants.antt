use Rattle.std.proofs.Common.{◌≡◌, drop}
use Rattle.indic_shaper.specs.Masking.{pref_from}
use Rattle.indic_shaper.proofs.initial.masking.pref_from.Given as goal

abbrev pub invariant-loop-i : goal.invariant-loop-i
invariant-loop-i g l = record {
  left : pref_from (g.M.hb_ot_layout_t.lookups l.map l.face) l.facts l.base l.i (drop l.i l.items)
      ≡ pref_from (g.M.hb_ot_layout_t.lookups l.map l.face) l.facts l.base 0 l.items;
}
