-- What is asked of pauses, worked by hand.
use Rattle.std.proofs.Common.{◌≡◌, ◌∙◌, ℕ, true, false, Option, Some, None, sym, subst, arith}
use Rattle.shape_pipeline.specs.Worked.Obligations.{PausesAreAsked}

none_is_none : {C : Type 0} (answer : Option ℕ) (n : ℕ) → answer ≡ None → answer ≡ Some n → C
none_is_none None n none some = cc
none_is_none (Some m) n none some = cc

pub pauses_are_asked : PausesAreAsked
pauses_are_asked hooks = record {
  under_morx = λ run morx staged. absurd (let e : true ≡ false = sym morx ∙ staged in cc);
  without_stages = λ run none staged i n within asked. absurd (omega (arith, none, within));
  unanswered = λ run none staged i n within asked. none_is_none (run.map.pause_after i) n (none i within) asked;
  past_stages = λ run none staged i n within asked.
      none_is_none (run.map.pause_after i) n (subst (λ j. run.map.pause_after j ≡ None) (sym (none i within).0) (none i within).1) asked;
  answered = λ run staged stages answers asked. asked staged 1 7 (omega (arith, stages)) answers;
}
