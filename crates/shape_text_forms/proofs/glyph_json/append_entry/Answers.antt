use Rattle.shape_text_forms.proofs.AppendLemmas.{appended_seven}
use Rattle.shape_text_forms.proofs.glyph_json.append_entry.Goals as goal

pub returns : goal.returns
returns g c = appended_seven _ _ _ _ _ _ _ _ c.in_ok-append_opening.ensures c.in_ok-append_glyph.ensures c.in_ok-append_cluster.ensures
    c.in_ok-append_position.ensures c.in_ok-append_flags.ensures c.in_ok-append_extents.ensures c.in_ok-append_end.ensures
