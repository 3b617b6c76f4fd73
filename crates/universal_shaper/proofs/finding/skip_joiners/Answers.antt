use Rattle.std.proofs.Common.{◌≡◌, ◌+◌, suc, ap, sym, ◌∙◌, arith}
use Rattle.universal_shaper.specs.Syllables.{skipped_at, skipped_to}
use Rattle.universal_shaper.proofs.finding.skip_joiners.Goals as goal

pub loop-i-preserved : goal.loop-i-preserved
loop-i-preserved c =
    let next : c.loop-i.i + 1 ≡ suc c.loop-i.i = omega arith in
    let made : c.skip_at.new.buffer ≡ skipped_to (suc c.loop-i.i) c.args.buffer.now
    = c.skip_at.ensures.made ∙ ap (skipped_at c.loop-i.i) c.loop-i.invariant.made in
    record {
      made = made ∙ ap (λ n. skipped_to n c.args.buffer.now) (sym next);
      len = c.skip_at.ensures.len ∙ c.loop-i.invariant.len;
      limit = c.skip_at.ensures.limit ∙ c.loop-i.invariant.limit;
    }
