use Rattle.std.proofs.Common.{◌≡◌, length}
use Rattle.opened_face.specs.Pages.{AreGlyphsOf}
use Rattle.opened_face.proofs.pages.glyphs_of.Given as goal

abbrev pub invariant-loop-i : goal.invariant-loop-i
invariant-loop-i l = record {
  so_far : length l.glyphs.items ≡ l.i;
  ok : AreGlyphsOf l.face l.pages l.glyphs.items;
}
