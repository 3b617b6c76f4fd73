use Rattle.std.proofs.Common.{◌≡◌, ◌+◌, ◌-◌}
use Rattle.shape_font.specs.Bytes.{u16_of, fitting}
use Rattle.layout_matching.specs.Loops.{some_passes}
use Rattle.layout_matching.specs.Would.{rule_would_in}
use Rattle.layout_matching.proofs.would.set_would.Given as goal

-- whether one of all rules matches is whether one from here on does
abbrev pub invariant-loop-r : goal.invariant-loop-r
invariant-loop-r l =
    let n = fitting l.table (u16_of l.table l.set) (l.set + 2) 2 in
    some_passes (rule_would_in l.table l.is_chain l.start l.alone.glyphs.now l.alone.zero_context l.set) n 0
    ≡ some_passes (rule_would_in l.table l.is_chain l.start l.alone.glyphs.now l.alone.zero_context l.set) (n - l.r) l.r
