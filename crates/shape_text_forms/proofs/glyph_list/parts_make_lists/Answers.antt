use Rattle.shape_text_forms.proofs.PartLemmas.{parts_make_lists}
use Rattle.shape_text_forms.proofs.glyph_list.parts_make_lists.Goals as goal

pub returns : goal.returns
returns c = parts_make_lists
