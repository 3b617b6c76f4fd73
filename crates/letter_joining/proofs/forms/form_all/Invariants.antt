use Rattle.std.proofs.Common.{◌≡◌, length}
use Rattle.shape_items.specs.Buffer.{limit_of}
use Rattle.letter_joining.specs.Forms.{formed_to, begun, kind_at, kind_before, kind_after}
use Rattle.letter_joining.proofs.forms.form_all.Given as goal

-- the kind of the item at hand is known
abbrev pub invariant-loop-i : goal.invariant-loop-i
invariant-loop-i l = record {
  made : (l.buffer, l.joining)
      ≡ formed_to l.fn.masks l.mongolian (kind_after l.fn.buffer.post_context) (begun (kind_before l.fn.buffer.pre_context)) l.i l.fn.buffer;
  kind : l.kind ≡ kind_at l.buffer.items l.i (kind_after l.fn.buffer.post_context);
  len : length l.buffer.items ≡ length l.fn.buffer.items;
  limit : limit_of l.buffer ≡ limit_of l.fn.buffer;
}
