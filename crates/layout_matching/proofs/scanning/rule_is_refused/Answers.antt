use Rattle.std.proofs.Common.{◌≡◌, ◌+◌, true, subst, arith}
use Rattle.layout_matching.specs.Glance.{is_refused}
use Rattle.layout_matching.proofs.ScanLemmas.{placed}
use Rattle.layout_matching.proofs.scanning.rule_is_refused.Goals as goal

pub returns-then-place-table : goal.returns-then-place-table
returns-then-place-table c = λ refused g tells place is.
    let t = c.args.table.now in
    let there : c.args.set + c.from.result ≡ place = omega (arith, c.from.ensures, c.word.ensures, placed t c.args.set c.args.r place is) in
    subst (λ n. is_refused t g c.args.is_chain n ≡ true) there (c.is_refused_by.ensures refused g tells)
