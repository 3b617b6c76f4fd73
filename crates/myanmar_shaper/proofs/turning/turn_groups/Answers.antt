use Rattle.std.proofs.Common.{◌≡◌, ◌+◌, suc, ap, ap₂, sym, ◌∙◌, arith, ℕ}
use Rattle.shape_items.specs.Buffer.{Buffer}
use Rattle.myanmar_shaper.specs.Turning.{turned_next, turned_to}
use Rattle.myanmar_shaper.proofs.turning.turn_groups.Goals as goal

pub loop-k-preserved : goal.loop-k-preserved
loop-k-preserved c =
    let said = c.turn_at-from.ensures in
    let next : c.loop-k.k + 1 ≡ suc c.loop-k.k = omega arith in
    let made : (c.turn_at-from.new.buffer, c.turn_at-from.result) ≡ turned_to c.args.start (suc c.loop-k.k) c.args.buffer.now
    = ap₂ (λ (b : Buffer) (w : ℕ). (b, w)) said.made said.value
    ∙ ap (turned_next c.args.start c.loop-k.k) c.loop-k.invariant.made in
    record {
      made = made ∙ ap (λ n. turned_to c.args.start n c.args.buffer.now) (sym next);
      before = said.before;
      len = said.len ∙ c.loop-k.invariant.len;
      limit = said.limit ∙ c.loop-k.invariant.limit;
    }
