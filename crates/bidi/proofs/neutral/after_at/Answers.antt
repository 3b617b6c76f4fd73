use Rattle.std.proofs.Common.{◌≡◌, ◌∙◌, ap, sym, true, false}
use Rattle.bidi.specs.Classes.{is_neutral}
use Rattle.bidi.proofs.NeutralLemmas.{after_on}
use Rattle.bidi.proofs.WeakLemmas.{first_at}
use Rattle.bidi.proofs.neutral.after_at.Goals as goal

pub returns-then-not-is_neutral : goal.returns-then-not-is_neutral
returns-then-not-is_neutral c = λ on.
    let clash : true ≡ false =
    sym on ∙ ap is_neutral (first_at c.args.classes.now c.args.place c.requires.within) ∙ sym c.is_neutral.ensures ∙ c.if-not-is_neutral.true in
    cc

pub returns-then-inside : goal.returns-then-inside
returns-then-inside c = λ on. c.requires.known c.if-inside.true ∙ after_on c.args.eos c.args.classes.now c.args.place c.requires.within on

pub returns-else-inside : goal.returns-else-inside
returns-else-inside c = λ on. c.direction_after.ensures
