use Rattle.std.proofs.Common.{rules, append_assoc}
use Rattle.shape_text_forms.proofs.glyph_json.append_box.Goals as goal

pub returns : goal.returns
returns c = rw (c.in_ok-append_size.ensures, c.in_ok-append_corner.ensures, append_assoc) (search rules)
