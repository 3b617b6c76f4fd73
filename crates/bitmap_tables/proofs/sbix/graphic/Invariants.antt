use Rattle.std.proofs.Common.{◌≡◌, ◌-◌}
use Rattle.bitmap_tables.specs.Sbix.{graphic_within, graphic_of}
use Rattle.bitmap_tables.proofs.sbix.graphic.Given as goal

-- what is found from here on is what is found from the start
abbrev pub invariant-loop-i : goal.invariant-loop-i
invariant-loop-i l = graphic_of l.sbix l.strike l.glyphs l.glyph
    ≡ graphic_within (9 - l._i) l.sbix l.strike l.glyphs l.named
