use Rattle.std.proofs.Common.{rules, append_assoc}
use Rattle.shape_text_forms.proofs.glyph_json.append_position.Goals as goal

pub returns : goal.returns
returns c = rw (c.in_ok-append_advance.ensures, c.in_ok-append_offset.ensures, append_assoc) (search rules)
