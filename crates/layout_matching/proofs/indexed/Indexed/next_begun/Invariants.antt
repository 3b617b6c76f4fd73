use Rattle.layout_matching.specs.Firsts.{AreOut}
use Rattle.layout_matching.proofs.indexed.Indexed.next_begun.Given as goal

abbrev pub invariant-loop-k : goal.invariant-loop-k
invariant-loop-k l = AreOut l.self.lookup.now l.i l.k l.glyph
