use Rattle.std.proofs.Common.{◌≡◌, ◌+◌, suc, ap, sym, ◌∙◌, arith}
use Rattle.arabic_fallback.specs.Ligating.{joined_at, joined_to}
use Rattle.arabic_fallback.proofs.ligating.join_to.Goals as goal

pub loop-i-preserved : goal.loop-i-preserved
loop-i-preserved c =
    let made = c.args.made.now in
    let next : c.loop-i.i + 1 ≡ suc c.loop-i.i = omega arith in
    record {
      made = c.join_at.ensures.made ∙ ap (joined_at made (made.at + 1 + c.loop-i.i)) c.loop-i.invariant.made
          ∙ ap (λ n. joined_to made n c.args.buffer.now) (sym next);
      as_many = c.join_at.ensures.as_many ∙ c.loop-i.invariant.as_many;
      limit = c.join_at.ensures.limit ∙ c.loop-i.invariant.limit;
    }
