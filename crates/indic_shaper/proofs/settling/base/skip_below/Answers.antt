use Rattle.std.proofs.Common.{◌≡◌, ◌+◌, suc, ap, ap₂, sym, ◌∙◌, arith}
use Rattle.shape_items.specs.Buffer.{Buffer}
use Rattle.indic_shaper.specs.declared.settling.base.Below.{Below}
use Rattle.indic_shaper.specs.Settling.Bases.{below_next, below_to}
use Rattle.indic_shaper.proofs.settling.base.skip_below.Goals as goal

pub loop-k-preserved : goal.loop-k-preserved
loop-k-preserved c =
    let k = c.loop-k.k in
    let next : k + 1 ≡ suc k = omega arith in
    let made : (c.next_below-below.new.buffer, c.next_below-below.result) ≡ below_to c.args.base c.args.end (suc k) c.args.buffer.now
    = ap₂ (λ (b : Buffer) (w : Below). (b, w)) c.next_below-below.ensures.made c.next_below-below.ensures.value
    ∙ ap (below_next c.args.end) c.loop-k.invariant.made in
    record {
      made = made ∙ ap (λ n. below_to c.args.base c.args.end n c.args.buffer.now) (sym next);
      before = c.next_below-below.ensures.before;
      to = c.next_below-below.ensures.to;
      grows = omega (arith, c.next_below-below.ensures.grows, c.loop-k.invariant.grows);
      len = c.next_below-below.ensures.len ∙ c.loop-k.invariant.len;
      limit = c.next_below-below.ensures.limit ∙ c.loop-k.invariant.limit;
    }
