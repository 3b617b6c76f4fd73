use Rattle.std.proofs.Common.{◌≡◌, Bool, true, sym, subst}
use Rattle.layout_matching.specs.Glance.{is_refused}
use Rattle.layout_matching.specs.Scanning.{TellsAll}
use Rattle.layout_matching.proofs.scanning.is_refused_by.Goals as goal

pub returns-then-is_chain : goal.returns-then-is_chain
returns-then-is_chain c = λ refused g tells.
    subst (λ (u : Bool). is_refused c.args.table.now g u c.args.place ≡ true) (sym c.if-is_chain.true)
    (c.chain_is_refused_by.ensures refused g (subst (λ (u : Bool). TellsAll u c.args.values.now g) c.if-is_chain.true tells))

pub returns-else-is_chain : goal.returns-else-is_chain
returns-else-is_chain c = λ refused g tells.
    subst (λ (u : Bool). is_refused c.args.table.now g u c.args.place ≡ true) (sym c.if-is_chain.false)
    (c.plain_is_refused_by.ensures refused g (subst (λ (u : Bool). TellsAll u c.args.values.now g) c.if-is_chain.false tells))
