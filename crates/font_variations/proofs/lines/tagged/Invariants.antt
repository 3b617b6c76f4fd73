use Rattle.std.proofs.Common.{◌≡◌, ◌-◌}
use Rattle.font_variations.specs.Lines.{tagged_from}
use Rattle.font_variations.proofs.lines.tagged.Given as goal

-- what is found from here on is what is found from the start
abbrev pub invariant-loop-i : goal.invariant-loop-i
invariant-loop-i l = tagged_from l.mvar l.tag l.size l.count 0 ≡ tagged_from l.mvar l.tag l.size (l.count - l.i) l.i
