use Rattle.std.proofs.Common.{◌≡◌, ◌+◌, ◌<◌, ◌∙◌, ap, sym, true, length, get_or, drop, arith}
use Rattle.ucd_bidi.specs.declared.BidiClass.TheVariants.{ArabicLetter, EuropeanTerminator}
use Rattle.bidi.specs.Classes.{is}
use Rattle.bidi.specs.Weak.{w5, leads_to_number}
use Rattle.bidi.proofs.WalkLemmas.{walked, drop-walked}
use Rattle.bidi.proofs.WeakLemmas.{w5_step, first_at}
use Rattle.bidi.proofs.weak.w5.Goals as goal

pub loop-i-preserved : goal.loop-i-preserved
loop-i-preserved c =
    let cs = c.loop-i.classes in
    let n = c.loop-i.i in
    let lt : n < length cs = omega arith in
    let leads : is (get_or cs n ArabicLetter) EuropeanTerminator ≡ true → c.leads_at-leads.result ≡ leads_to_number (drop (n + 1) cs) =
    λ on. c.leads_at-leads.ensures (ap (λ v. is v EuropeanTerminator) (first_at cs n lt) ∙ on) in
    record {
      done = walked (w5 c.loop-i.before) (w5 c.w5_class-before.result) cs n c.w5_class-before.result ArabicLetter lt
          (w5_step c.loop-i.before (get_or cs n ArabicLetter) c.w5_class-before.result c.leads_at-leads.result (drop (n + 1) cs) leads c.w5_class-before.ensures)
          ∙ c.loop-i.invariant.done;
      known = λ on. leads (sym c.is-inside.ensures ∙ on) ∙ ap leads_to_number (sym (drop-walked cs n c.w5_class-before.result));
    }
