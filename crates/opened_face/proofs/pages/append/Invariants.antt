use Rattle.std.proofs.Common.{◌≤◌, length}
use Rattle.opened_face.proofs.pages.append.Given as goal

abbrev pub invariant-loop-page : goal.invariant-loop-page
invariant-loop-page l = length l.pages.items ≤ 512
