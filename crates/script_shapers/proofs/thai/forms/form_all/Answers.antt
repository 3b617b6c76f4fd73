use Rattle.std.proofs.Common.{◌≡◌, ◌+◌, suc, ap, ap₂, sym, ◌∙◌, arith}
use Rattle.shape_items.specs.Buffer.{Buffer}
use Rattle.script_shapers.specs.ThaiForms.{formed_to, formed_next}
use Rattle.script_shapers.specs.declared.thai.forms.Walk.{Walk}
use Rattle.script_shapers.proofs.thai.forms.form_all.Goals as goal

pub loop-i-preserved : goal.loop-i-preserved
loop-i-preserved g c =
    let face = g.F.hb_font_t.face c.args.face.now in
    let next : c.loop-i.i + 1 ≡ suc c.loop-i.i = omega arith in
    let made : (c.form_at-walk.new.buffer, c.form_at-walk.result) ≡ formed_to face (suc c.loop-i.i) c.args.buffer.now
    = ap₂ (λ (b : Buffer) (w : Walk). (b, w)) c.form_at-walk.ensures.made c.form_at-walk.ensures.value
    ∙ ap (formed_next face c.loop-i.i) c.loop-i.invariant.made in
    record {
      made = made ∙ ap (λ n. formed_to face n c.args.buffer.now) (sym next);
      len = c.form_at-walk.ensures.len ∙ c.loop-i.invariant.len;
      limit = c.form_at-walk.ensures.limit ∙ c.loop-i.invariant.limit;
    }
