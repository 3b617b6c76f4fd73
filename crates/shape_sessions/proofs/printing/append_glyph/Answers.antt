use Rattle.shape_sessions.proofs.PrintingLemmas.{appended_four}
use Rattle.shape_sessions.proofs.printing.append_glyph.Goals as goal

pub returns : goal.returns
returns c = appended_four _ _ _ _ _ c.in_ok-append_place.ensures c.in_ok-append_advances.ensures c.in_ok-append_offsets.ensures
    c.in_ok-append_flags.ensures
