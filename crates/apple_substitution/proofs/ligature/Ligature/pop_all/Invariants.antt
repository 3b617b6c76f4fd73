use Rattle.std.proofs.Common.{◌≡◌, ◌-◌}
use Rattle.apple_substitution.specs.Ligature.{popped}
use Rattle.apple_substitution.proofs.ligature.Ligature.pop_all.Given as goal

abbrev pub invariant-loop-i : goal.invariant-loop-i
invariant-loop-i l = record {
  made : popped l.self.morx.now l.self.start l.places (l.fn.first.cursor - l._i)
      (record { buffer = l.buffer; popping = l.popping })
      ≡ popped l.self.morx.now l.self.start l.places l.fn.first.cursor
      (record { buffer = l.fn.buffer; popping = l.fn.first });
}
