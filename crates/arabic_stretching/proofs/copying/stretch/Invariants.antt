use Rattle.std.proofs.Common.{◌≡◌, ◌≤◌, ◌++◌, None, drop, length}
use Rattle.arabic_stretching.specs.Copying.{stretched_from}
use Rattle.arabic_stretching.proofs.copying.stretch.Given as goal

abbrev pub invariant-loop-i : goal.invariant-loop-i
invariant-loop-i g l =
    let face = g.F.hb_font_t.face l.face in
    record {
      left : l.out.items ++ stretched_from face l.right_to_left l.walk (drop l.i l.glyphs)
          ≡ stretched_from face l.right_to_left None l.glyphs;
      within : length l.out.items ≤ l.limit;
    }
