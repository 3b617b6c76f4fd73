use Rattle.std.proofs.Common.{◌≡◌}
use Rattle.glyph_variations.specs.Times.{times}
use Rattle.shape_font.specs.PlacesAt as places
use Rattle.shape_font.proofs.placed.through.Given as goal

abbrev pub invariant-loop-i : goal.invariant-loop-i
invariant-loop-i l = l.placing ≡ times (places.out_step l.parts) l._i (record { part = l.fn.part; place = l.fn.place })
