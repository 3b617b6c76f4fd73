use Rattle.std.proofs.Common.{◌≡◌, ◌+◌, suc, ap, sym, ◌∙◌, arith}
use Rattle.script_shapers.specs.Hangul.{joined_to, joined_next}
use Rattle.script_shapers.proofs.hangul.marking.join_each.Goals as goal

pub loop-i-preserved : goal.loop-i-preserved
loop-i-preserved g c =
    let unicode = g.U.hb_unicode_funcs_t.unicode in
    let face = g.F.hb_font_t.face c.args.face.now in
    let next : c.loop-i.i + 1 ≡ suc c.loop-i.i = omega arith in
    let made : (c.join_next-skip.new.buffer, c.join_next-skip.result) ≡ joined_to unicode face (suc c.loop-i.i) c.args.buffer.now
    = c.join_next-skip.ensures.made ∙ ap (joined_next unicode face c.loop-i.i) c.loop-i.invariant.made in
    record {
      made = made ∙ ap (λ n. joined_to unicode face n c.args.buffer.now) (sym next);
      len = c.join_next-skip.ensures.len ∙ c.loop-i.invariant.len;
      limit = c.join_next-skip.ensures.limit ∙ c.loop-i.invariant.limit;
    }
