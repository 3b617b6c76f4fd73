use Rattle.std.proofs.Common.{◌≡◌, ◌+◌, suc, ap, ap₂, sym, ◌∙◌, arith}
use Rattle.shape_items.specs.Buffer.{Buffer}
use Rattle.letter_joining.specs.Flags.{marked_to, marked_next, begun_walk}
use Rattle.letter_joining.specs.declared.flags.Walk.{Walk}
use Rattle.letter_joining.proofs.flags.mark_all.Goals as goal

pub loop-i-preserved : goal.loop-i-preserved
loop-i-preserved c =
    let walk = begun_walk c.args.buffer.now in
    let next : c.loop-i.i + 1 ≡ suc c.loop-i.i = omega arith in
    let made : (c.mark_at-walk.new.buffer, c.mark_at-walk.result) ≡ marked_to walk (suc c.loop-i.i) c.args.buffer.now
    = ap₂ (λ (b : Buffer) (w : Walk). (b, w)) c.mark_at-walk.ensures.made c.mark_at-walk.ensures.value
    ∙ ap (marked_next c.loop-i.i) c.loop-i.invariant.made in
    record {
      made = made ∙ ap (λ n. marked_to walk n c.args.buffer.now) (sym next);
      len = c.mark_at-walk.ensures.len ∙ c.loop-i.invariant.len;
      limit = c.mark_at-walk.ensures.limit ∙ c.loop-i.invariant.limit;
    }
