use Rattle.std.proofs.Common.{◌≡◌, ◌-◌}
use Rattle.std.specs.Option.{option_map}
use Rattle.charstrings.specs.Machine.{run_of, first_run}
use Rattle.charstrings.specs.Outline.{outline_from, inked_from, no_bounds}
use Rattle.charstrings.proofs.bounds.inked_within.Given as goal

-- what is drawn from here on, in the box of what was drawn, is the box of all
abbrev pub invariant-loop-i : goal.invariant-loop-i
invariant-loop-i l = option_map (inked_from l.bounds) (outline_from (l.most - l._i) l.program.table.now l.program.layout l.program.local (run_of l.state))
    ≡ option_map (inked_from no_bounds) (outline_from l.most l.program.table.now l.program.layout l.program.local (first_run l.fn.code l.fn.variation))
