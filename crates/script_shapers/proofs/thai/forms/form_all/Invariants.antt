use Rattle.std.proofs.Common.{◌≡◌, length}
use Rattle.shape_items.specs.Buffer.{limit_of}
use Rattle.script_shapers.specs.ThaiForms.{formed_to}
use Rattle.script_shapers.proofs.thai.forms.form_all.Given as goal

abbrev pub invariant-loop-i : goal.invariant-loop-i
invariant-loop-i g l = record {
  made : (l.buffer, l.walk) ≡ formed_to (g.F.hb_font_t.face l.face) l.i l.fn.buffer;
  len : length l.buffer.items ≡ length l.fn.buffer.items;
  limit : limit_of l.buffer ≡ limit_of l.fn.buffer;
}
