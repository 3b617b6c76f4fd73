use Rattle.std.proofs.Common.{◌≡◌, ◌++◌, drop, string_bytes}
use Rattle.shape_sessions.specs.Printing.{places_from, text_line}
use Rattle.shape_sessions.proofs.printing.append_line.Given as goal

-- what is written and what is left make the whole
abbrev pub invariant-loop-item : goal.invariant-loop-item
invariant-loop-item l =
    string_bytes l.lines ++ places_from (drop l.item-index l.items)
    ≡ string_bytes l.fn.lines ++ text_line l.fn.text_start l.fn.text_end l.items
