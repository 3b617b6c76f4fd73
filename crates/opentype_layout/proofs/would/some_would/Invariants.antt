use Rattle.std.proofs.Common.{◌≡◌, drop}
use Rattle.opentype_layout.specs.Would.{some_would}
use Rattle.opentype_layout.proofs.would.some_would.Given as goal

-- whether one of all lookups would is whether one from here on would
abbrev pub invariant-loop-map : goal.invariant-loop-map
invariant-loop-map l =
    some_would l.table l.alone.glyphs.now l.alone.zero_context (drop l.map-index l.maps)
    ≡ some_would l.table l.alone.glyphs.now l.alone.zero_context l.fn.maps
