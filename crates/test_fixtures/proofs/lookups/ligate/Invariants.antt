use Rattle.shape_buffer.specs.Outcome.{Made}
use Rattle.test_fixtures.specs.Rules.{ligated_to}
use Rattle.test_fixtures.proofs.lookups.ligate.Given as goal

-- the places before i were visited
abbrev pub invariant-loop-i : goal.invariant-loop-i
invariant-loop-i l = Made (ligated_to l.rule l.i) l.fn.buffer l.buffer
