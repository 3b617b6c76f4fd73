use Rattle.std.proofs.Common.{◌≡◌, ◌+◌, ◌++◌, ◌∙◌, get_or, drop, ap, subst, sym, arith}
use Rattle.ucd_bidi.specs.declared.BidiClass.TheVariants.{ArabicLetter}
use Rattle.bidi.specs.Explicit.{Stack, explicit_from, placed, stepped}
use Rattle.bidi.proofs.ExplicitLemmas.{explicit_step}
use Rattle.bidi.proofs.StackLemmas.{Grows, grows}
use Rattle.bidi.proofs.explicit.place_all.Goals as goal

pub loop-i-preserved : goal.loop-i-preserved
loop-i-preserved c =
    let cs = c.args.classes.now in
    let n = c.loop-i.i in
    let x = get_or cs n ArabicLetter in
    let old = c.loop-i.stack in
    let new = c.step.new.self in
    let is_new : new ≡ stepped c.args.base c.first-right.result x old = c.in_ok-step.ensures in
    let is_placed : c.place_between.result ≡ placed c.args.base old.top new.top x =
    cc (ap (λ (s : Stack). s.top) c.stack.view_is, ap (λ (s : Stack). s.top) c.stack-in-loop-i.view_is, c.place_between.ensures) in
    let g : Grows old new = subst (Grows old) (sym is_new) (grows c.args.base c.first-right.result x old) in
    record {
      done = ap (λ l. l ++ explicit_from c.args.base new (drop (n + 1) cs)) c.in_ok-push.ensures.items
          ∙ explicit_step c.args.base n cs old new c.first-right.result c.place_between.result c.loop-i.all.items c.loop-i-test.true
          c.first-right.ensures is_new is_placed ∙ c.loop-i.invariant.done;
      isolates = omega (arith, g.isolates, c.loop-i.invariant.isolates);
      overflow_isolates = omega (arith, g.overflow_isolates, c.loop-i.invariant.overflow_isolates);
      overflow_embeddings = omega (arith, g.overflow_embeddings, c.loop-i.invariant.overflow_embeddings);
    }
