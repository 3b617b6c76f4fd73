use Rattle.std.proofs.Common.{◌≡◌, drop, fold}
use Rattle.arabic_stretching.specs.Fitting.{with_tile, widths_of}
use Rattle.arabic_stretching.proofs.fitting.widths_of.Given as goal

abbrev pub invariant-loop-tile : goal.invariant-loop-tile
invariant-loop-tile g l =
    let face = g.F.hb_font_t.face l.face in
    record { made : fold (with_tile face) l.widths (drop l.tile-index l.tiles) ≡ widths_of face l.tiles }
