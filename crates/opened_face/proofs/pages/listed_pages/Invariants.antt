use Rattle.std.proofs.Common.{◌≤◌, length}
use Rattle.opened_face.proofs.pages.listed_pages.Given as goal

abbrev pub invariant-loop-i : goal.invariant-loop-i
invariant-loop-i l = length l.pages.items ≤ 512
