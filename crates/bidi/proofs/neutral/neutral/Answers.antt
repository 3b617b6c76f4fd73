use Rattle.std.proofs.Common.{◌≡◌, ◌+◌, ◌<◌, ◌∙◌, ap, sym, true, length, get_or, drop, arith}
use Rattle.ucd_bidi.specs.declared.BidiClass.TheVariants.{ArabicLetter}
use Rattle.bidi.specs.Classes.{is_neutral}
use Rattle.bidi.specs.Neutral.{neutral, direction_after}
use Rattle.bidi.proofs.WalkLemmas.{walked, drop-walked}
use Rattle.bidi.proofs.WeakLemmas.{first_at}
use Rattle.bidi.proofs.NeutralLemmas.{neutral_step}
use Rattle.bidi.proofs.neutral.neutral.Goals as goal

pub loop-i-preserved : goal.loop-i-preserved
loop-i-preserved c =
    let cs = c.loop-i.classes in
    let n = c.loop-i.i in
    let embedding = c.args.embedding in
    let eos = c.args.eos in
    let lt : n < length cs = omega arith in
    let after : is_neutral (get_or cs n ArabicLetter) ≡ true → c.after_at-after.result ≡ direction_after eos (drop (n + 1) cs) =
    λ on. c.after_at-after.ensures (ap is_neutral (first_at cs n lt) ∙ on) in
    record {
      done = walked (neutral embedding eos c.loop-i.before) (neutral embedding eos c.direction_then-before.result) cs n c.n1_class.result ArabicLetter lt
          (neutral_step embedding eos c.loop-i.before (get_or cs n ArabicLetter) c.after_at-after.result c.n1_class.result c.direction_then-before.result
          (drop (n + 1) cs) after c.n1_class.ensures c.direction_then-before.ensures)
          ∙ c.loop-i.invariant.done;
      known = λ on. after (sym c.is_neutral-inside.ensures ∙ on) ∙ ap (direction_after eos) (sym (drop-walked cs n c.n1_class.result));
    }
