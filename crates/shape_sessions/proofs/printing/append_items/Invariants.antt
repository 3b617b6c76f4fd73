use Rattle.std.proofs.Common.{◌≡◌, ◌++◌, drop, string_bytes}
use Rattle.shape_sessions.specs.Printing.{items_from, items_line}
use Rattle.shape_sessions.proofs.printing.append_items.Given as goal

-- what is written and what is left make the whole
abbrev pub invariant-loop-item : goal.invariant-loop-item
invariant-loop-item l =
    string_bytes l.lines ++ items_from (drop l.item-index l.items)
    ≡ string_bytes l.fn.lines ++ items_line l.fn.name l.items
