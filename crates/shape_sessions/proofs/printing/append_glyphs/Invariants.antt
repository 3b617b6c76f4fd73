use Rattle.std.proofs.Common.{◌≡◌, ◌++◌, string_bytes}
use Rattle.std.specs.Iterator.Adapters.{zip_first, zip_second}
use Rattle.std.specs.Slice.Iter.{iter_rest}
use Rattle.shape_sessions.specs.Printing.{glyphs_from, glyphs_line}
use Rattle.shape_sessions.proofs.printing.append_glyphs.Given as goal

-- what is written and what is left make the whole
abbrev pub invariant-loop-item : goal.invariant-loop-item
invariant-loop-item l =
    string_bytes l.lines ++ glyphs_from (iter_rest (zip_first l.item-iterator)) (iter_rest (zip_second l.item-iterator))
    ≡ string_bytes l.fn.lines ++ glyphs_line l.items l.positions
