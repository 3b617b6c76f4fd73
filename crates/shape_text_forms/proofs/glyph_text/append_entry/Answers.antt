use Rattle.shape_text_forms.proofs.AppendLemmas.{appended_six}
use Rattle.shape_text_forms.proofs.glyph_text.append_entry.Goals as goal

pub returns : goal.returns
returns g c = appended_six _ _ _ _ _ _ _ c.in_ok-append_separator.ensures c.in_ok-append_glyph.ensures c.in_ok-append_cluster.ensures
    c.in_ok-append_position.ensures c.in_ok-append_flags.ensures c.in_ok-append_extents.ensures
