use Rattle.std.proofs.Common.{◌≡◌, ◌+◌, length}
use Rattle.opened_face.specs.Pages.{AreAdvances, steps_below}
use Rattle.opened_face.specs.declared.advances.TheConstants.{MOST_STEPS}
use Rattle.opened_face.proofs.advances.advances_of.Given as goal

abbrev pub invariant-loop-number : goal.invariant-loop-number
invariant-loop-number l = record {
  so_far : length l.advances.items ≡ l.number;
  ok : AreAdvances l.face l.advances.items;
  steps : steps_below l.face l.number + l.left ≡ MOST_STEPS;
}
