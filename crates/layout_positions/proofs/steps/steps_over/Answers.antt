use Rattle.std.proofs.Common.{◌+◌, ◌≤◌, length, subst, arith}
use Rattle.layout_positions.specs.Digested.{AreUnheld}
use Rattle.layout_positions.proofs.DigestLemmas.{steps_passed}
use Rattle.layout_positions.proofs.steps.steps_over.Goals as goal

pub returns-clause-passed : goal.returns-clause-passed
returns-clause-passed c =
    let d = c.args.named.now in
    let b = c.args.buffer.now in
    let n = c.unheld.result in
    let inside : c.args.at + n ≤ length b.items =
    omega (arith, c.unheld.ensures.few, c.min.ensures, c.len-2.ensures.items, c.if-len-at.false, c.len.ensures.items) in
    let free : AreUnheld d.digest b.items c.args.at n =
    subst (λ xs. AreUnheld d.digest xs c.args.at n) c.infos.ensures c.unheld.ensures.free in
    λ seen left. steps_passed d b c.args.at seen left n c.requires.said inside free
