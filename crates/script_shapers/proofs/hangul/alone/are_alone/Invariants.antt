use Rattle.std.proofs.Common.{◌≡◌, drop}
use Rattle.script_shapers.specs.Hangul.{are_alone}
use Rattle.script_shapers.proofs.hangul.alone.are_alone.Given as goal

-- whether all stay is whether those from here on do
abbrev pub invariant-loop-i : goal.invariant-loop-i
invariant-loop-i g l = are_alone (g.F.hb_font_t.face l.face) l.infos ≡ are_alone (g.F.hb_font_t.face l.face) (drop l.i l.infos)
