use Rattle.glyph_pictures.proofs.HtmlLemmas.{reads_back}
use Rattle.glyph_pictures.proofs.html.written_texts_read_back.Goals as goal

pub returns : goal.returns
returns c = reads_back
