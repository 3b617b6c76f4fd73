use Rattle.shape_text_forms.proofs.PartLemmas.{appended_list}
use Rattle.shape_text_forms.proofs.glyph_list.append_glyphs.Goals as goal

pub returns : goal.returns
returns g c = appended_list _ _ _ _ _ c.requires c.in_ok-append_part.ensures.text c.in_ok-append_end.ensures
