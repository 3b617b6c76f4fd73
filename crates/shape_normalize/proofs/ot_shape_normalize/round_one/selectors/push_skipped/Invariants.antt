use Rattle.std.proofs.Common.{◌≡◌, ◌++◌, map, take}
use Rattle.shape_normalize.specs.RoundOne.{skipped_item}
use Rattle.shape_normalize.proofs.ot_shape_normalize.round_one.selectors.push_skipped.Given as goal

abbrev pub invariant-loop-info : goal.invariant-loop-info
invariant-loop-info g l =
    l.out.items ≡ l.initial.out.items ++ map (skipped_item (g.F.hb_font_t.face l.face).nominal_glyph) (take l.info-index l.infos)
