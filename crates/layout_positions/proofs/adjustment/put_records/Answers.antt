use Rattle.std.proofs.Common.{◌≡◌, ℤ, Some, IfSome, FitsSigned, ap, sym, subst, ◌∙◌, rules}
use Rattle.std.proofs.lemmas.Int.{to_z-of_z}
use Rattle.shape_items.specs.Buffer.{Buffer}
use Rattle.layout_positions.specs.Pairs.{pair_put, values_of, advance_values}
use Rattle.layout_positions.specs.declared.pairs.PairValues.{PairValues}
use Rattle.layout_positions.proofs.adjustment.put_records.Goals as goal
use mir.Syntax.{w32}

pub returns-in-Some-clause-made : goal.returns-in-Some-clause-made
returns-in-Some-clause-made c =
    let x : ℤ = c.in-Some.advance in
    let Says : ℤ → Type 0 = λ x. values_of c.args.lookup.now c.args.records.now ≡ advance_values x in
    let said : IfSome (Some x) Says = subst (λ o. IfSome o Says) c.in-Some.is c.plain_advance.ensures in
    let fits : FitsSigned w32 x = search rules in
    let put : PairValues → Buffer = λ v. (pair_put c.args.listed c.args.i c.args.j c.args.buffer.now v).buffer in
    c.put_advance.ensures.made ∙ ap (λ y. put (advance_values y)) (to_z-of_z w32 x fits) ∙ ap put (sym said)

pub returns-in-None-clause-made : goal.returns-in-None-clause-made
returns-in-None-clause-made c = c.put_pair.ensures.made
    ∙ ap (λ (v : PairValues). (pair_put c.args.listed c.args.i c.args.j c.args.buffer.now v).buffer) c.values_of.ensures

pub returns-in-None-clause-next : goal.returns-in-None-clause-next
returns-in-None-clause-next c = c.put_pair.ensures.next
    ∙ ap (λ (v : PairValues). (pair_put c.args.listed c.args.i c.args.j c.args.buffer.now v).next) c.values_of.ensures
