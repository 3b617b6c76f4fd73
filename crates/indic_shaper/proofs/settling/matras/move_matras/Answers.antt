use Rattle.std.proofs.Common.{◌≡◌, ◌+◌, ◌-◌, suc, ap, ap₂, sym, ◌∙◌, arith, ℕ}
use Rattle.shape_items.specs.Buffer.{Buffer}
use Rattle.indic_shaper.specs.Settling.Matras.{moved_next, moved_to}
use Rattle.indic_shaper.proofs.settling.matras.move_matras.Goals as goal

pub loop-k-preserved : goal.loop-k-preserved
loop-k-preserved c =
    let k = c.loop-k.k in
    let next : k + 1 ≡ suc k = omega arith in
    let made : (c.move_at-place.new.buffer, c.move_at-place.result) ≡ moved_to c.args.until c.args.to (suc k) c.args.buffer.now
    = ap₂ (λ (b : Buffer) (w : ℕ). (b, w)) c.move_at-place.ensures.made c.move_at-place.ensures.value
    ∙ ap (moved_next c.args.until (c.args.to - k - 1)) c.loop-k.invariant.made in
    record {
      made = made ∙ ap (λ n. moved_to c.args.until c.args.to n c.args.buffer.now) (sym next);
      least = omega (arith, c.move_at-place.ensures.least, c.loop-k.invariant.least);
      most = omega (arith, c.move_at-place.ensures.most, c.loop-k.invariant.most);
      len = c.move_at-place.ensures.len ∙ c.loop-k.invariant.len;
      limit = c.move_at-place.ensures.limit ∙ c.loop-k.invariant.limit;
    }
