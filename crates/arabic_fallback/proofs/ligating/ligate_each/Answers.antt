use Rattle.std.proofs.Common.{◌≡◌, ◌+◌, suc, ap, sym, ◌∙◌, arith}
use Rattle.arabic_fallback.specs.Ligating.{ligated_at, ligated_to}
use Rattle.arabic_fallback.proofs.ligating.ligate_each.Goals as goal

pub loop-at-preserved : goal.loop-at-preserved
loop-at-preserved c =
    let next : c.loop-at.at + 1 ≡ suc c.loop-at.at = omega arith in
    record {
      made = c.ligate_at-next.ensures.made ∙ ap (ligated_at c.args.rule c.args.rows.now c.loop-at.at) c.loop-at.invariant.made
          ∙ ap (λ n. ligated_to c.args.rule c.args.rows.now n c.args.buffer.now) (sym next);
      as_many = c.ligate_at-next.ensures.as_many ∙ c.loop-at.invariant.as_many;
      limit = c.ligate_at-next.ensures.limit ∙ c.loop-at.invariant.limit;
    }
