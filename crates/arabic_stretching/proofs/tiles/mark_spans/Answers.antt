use Rattle.std.proofs.Common.{◌≡◌, ◌+◌, suc, ap, sym, ◌∙◌, arith}
use Rattle.arabic_stretching.specs.Tiles.{span_marked_at, spans_marked_to}
use Rattle.arabic_stretching.proofs.tiles.mark_spans.Goals as goal

pub loop-i-preserved : goal.loop-i-preserved
loop-i-preserved c =
    let next : c.loop-i.i + 1 ≡ suc c.loop-i.i = omega arith in
    record {
      made = c.mark_at.ensures.made ∙ ap (span_marked_at c.loop-i.i) c.loop-i.invariant.made
          ∙ ap (λ n. spans_marked_to n c.args.buffer.now) (sym next);
      len = c.mark_at.ensures.len ∙ c.loop-i.invariant.len;
      limit = c.mark_at.ensures.limit ∙ c.loop-i.invariant.limit;
    }
