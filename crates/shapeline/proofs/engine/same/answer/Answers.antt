use Rattle.std.proofs.Common.{◌≡◌, ℕ, Option, Some, None, false}
use Rattle.std.specs.Option.{SomeIff, is_some}
use Rattle.shapeline.proofs.PairLemmas.{no_slash-no_pair, pair-sides}
use Rattle.shapeline.proofs.engine.same.answer.Goals.{then-is_none-via-then-is_none, then-is_none-via-else-is_none+then-is_none-2}
use Rattle.shapeline.proofs.engine.same.answer.Goals as goal

-- if there is no answer, what it would stand for fails
none-fails : {Holds : Type 0} (len : Option ℕ) (bytes : ℕ) → SomeIff len Holds bytes → is_some len ≡ false → ¬ Holds
none-fails None bytes answer none holds = answer holds
none-fails (Some n) bytes answer none holds = absurd cc

pub returns-in_default : goal.returns-in_default
returns-in_default g c = λ pair. no_slash-no_pair c.args.words.rest.now c.in_default.ensures pair

pub returns-then-is_none : goal.returns-then-is_none
returns-then-is_none g c = λ pair.
    let sides = pair-sides c.args.words.rest.now c.in-Some.first.rest.now c.in-Some.second.rest.now c.in-Some.ensures.0 c.in-Some.ensures.1 pair in
    elim c.then-is_none.branch [
      | then-is_none-via-then-is_none w ↦ none-fails c.text_len.result _ c.text_len.ensures w.if-is_none.ensures sides.0
      | then-is_none-via-else-is_none+then-is_none-2 w ↦ none-fails w.text_len-else-is_none.result _ w.text_len-else-is_none.ensures w.if-is_none-2.ensures sides.1
    ]
