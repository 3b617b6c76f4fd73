use Rattle.std.proofs.Common.{◌≡◌, ◌+◌, ◌++◌, ℕ, List, suc, ap, sym, ◌∙◌, arith}
use Rattle.script_shapers.specs.Thai.{am_spans, span_at}
use Rattle.script_shapers.proofs.thai.sara_am.am_spans.Goals as goal

pub loop-i-preserved : goal.loop-i-preserved
loop-i-preserved c =
    let level = c.args.level in
    let items = c.args.infos.now in
    let next : c.loop-i.i + 1 ≡ suc c.loop-i.i = omega arith in
    record {
      made = c.in_ok-put_span.ensures.ok ∙ ap (λ (spans : List (ℕ × ℕ)). spans ++ span_at level items c.loop-i.i) c.loop-i.invariant.made
          ∙ ap (am_spans level items) (sym next);
    }
