use Rattle.std.proofs.Common.{rules}
use Rattle.std.proofs.lemmas.Slice.Zip.{either_empty_from_Zip}
use Rattle.shape_sessions.proofs.PrintingLemmas.{glyphs_from-end}
use Rattle.shape_sessions.proofs.printing.append_glyphs.Goals as goal

pub returns : goal.returns
returns c =
    let end = glyphs_from-end _ _ (either_empty_from_Zip c.loop-item.item-iterator c.next.new.self _ c.in-None.is c.next.ensures.steps) in
    search (rules, end)
