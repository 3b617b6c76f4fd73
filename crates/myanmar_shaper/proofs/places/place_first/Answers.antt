use Rattle.std.proofs.Common.{◌≡◌, ◌+◌, suc, ap, ap₂, sym, ◌∙◌, arith}
use Rattle.shape_items.specs.Buffer.{Buffer}
use Rattle.myanmar_shaper.specs.Places.{placed_next, placed_to}
use Rattle.myanmar_shaper.specs.declared.places.Placing.{Placing}
use Rattle.myanmar_shaper.proofs.places.place_first.Goals as goal

pub loop-k-preserved : goal.loop-k-preserved
loop-k-preserved c =
    let said = c.place_at-placing.ensures in
    let frame = c.args.frame in
    let next : c.loop-k.k + 1 ≡ suc c.loop-k.k = omega arith in
    let made : (c.place_at-placing.new.buffer, c.place_at-placing.result) ≡ placed_to frame c.args.start (suc c.loop-k.k) c.args.buffer.now
    = ap₂ (λ (b : Buffer) (w : Placing). (b, w)) said.made said.value
    ∙ ap (placed_next frame c.args.start c.loop-k.k) c.loop-k.invariant.made in
    record {
      made = made ∙ ap (λ n. placed_to frame c.args.start n c.args.buffer.now) (sym next);
      len = said.len ∙ c.loop-k.invariant.len;
      limit = said.limit ∙ c.loop-k.invariant.limit;
    }
