use Rattle.std.proofs.Common.{◌≡◌, ◌++◌, drop}
use Rattle.script_shapers.specs.Hangul.{built}
use Rattle.script_shapers.proofs.hangul.building.built.Given as goal

abbrev pub invariant-loop-i : goal.invariant-loop-i
invariant-loop-i g l = record {
  left : l.items.items
      ++ built g.U.hb_unicode_funcs_t.unicode (g.F.hb_font_t.face l.face) l.tones.level l.tones.circle l.skip (drop l.i l.infos)
      ≡ built g.U.hb_unicode_funcs_t.unicode (g.F.hb_font_t.face l.face) l.tones.level l.tones.circle 0 l.infos;
}
