use Rattle.std.proofs.Common.{◌≡◌, ◌∙◌, ap, sym, true, false}
use Rattle.ucd_bidi.specs.declared.BidiClass.TheVariants.{EuropeanTerminator}
use Rattle.bidi.specs.Classes.{is}
use Rattle.bidi.proofs.WeakLemmas.{first_at, leads_on}
use Rattle.bidi.proofs.weak.leads_at.Goals as goal

pub returns-then-not-is : goal.returns-then-not-is
returns-then-not-is c = λ on.
    let clash : true ≡ false =
    sym on ∙ ap (λ k. is k EuropeanTerminator) (first_at c.args.classes.now c.args.place c.requires.within) ∙ sym c.is.ensures ∙ c.if-not-is.true in
    cc

pub returns-then-inside : goal.returns-then-inside
returns-then-inside c = λ on. c.requires.known c.if-inside.true ∙ leads_on c.args.classes.now c.args.place c.requires.within on

pub returns-else-inside : goal.returns-else-inside
returns-else-inside c = λ on. c.leads_to_number.ensures
