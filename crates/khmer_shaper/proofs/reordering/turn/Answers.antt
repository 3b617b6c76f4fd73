use Rattle.std.proofs.Common.{◌≡◌, ◌+◌, suc, ap, sym, ◌∙◌, arith}
use Rattle.khmer_shaper.specs.Reordering.{turned_at, turned}
use Rattle.khmer_shaper.proofs.reordering.turn.Goals as goal

pub loop-k-preserved : goal.loop-k-preserved
loop-k-preserved c =
    let next : c.loop-k.k + 1 ≡ suc c.loop-k.k = omega arith in
    let made : c.turn_at.new.buffer ≡ turned c.args.start (suc c.loop-k.k) c.args.buffer.now
    = c.turn_at.ensures.made ∙ ap (turned_at (c.args.start + c.loop-k.k)) c.loop-k.invariant.made in
    record {
      made = made ∙ ap (λ n. turned c.args.start n c.args.buffer.now) (sym next);
      len = c.turn_at.ensures.len ∙ c.loop-k.invariant.len;
      limit = c.turn_at.ensures.limit ∙ c.loop-k.invariant.limit;
    }
