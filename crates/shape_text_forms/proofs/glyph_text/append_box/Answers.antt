use Rattle.std.proofs.Common.{rules, append_assoc}
use Rattle.shape_text_forms.proofs.glyph_text.append_box.Goals as goal

pub returns-in_ok-append_size-in-Some : goal.returns-in_ok-append_size-in-Some
returns-in_ok-append_size-in-Some c =
    rw (c.in_ok-append_size-in-Some.ensures, c.in_ok-append_corner-in-Some.ensures, c.in-Some.is, append_assoc) (search rules)
