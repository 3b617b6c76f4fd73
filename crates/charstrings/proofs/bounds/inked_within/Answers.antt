use Rattle.std.proofs.Common.{sym, ◌∙◌}
use Rattle.charstrings.specs.Machine.{run_of}
use Rattle.charstrings.proofs.OutlineLemmas.{inked_composed, inked_ended}
use Rattle.charstrings.proofs.bounds.inked_within.Goals as goal

pub returns-in-Some-Composed : goal.returns-in-Some-Composed
returns-in-Some-Composed c =
    let p = c.args.program.now in
    let made = rw c.in-Some-Composed.field-0-is at c.in-Some-Composed.ensures in
    sym (inked_composed p.table.now p.layout p.local c.args.most c.loop-i._i (run_of c.loop-i.state) (run_of c.step.new.self) c.loop-i.bounds c.in-Some-Composed.accent c.loop-i-test.true made)
    ∙ c.loop-i.invariant

pub returns-in-Some-Ended : goal.returns-in-Some-Ended
returns-in-Some-Ended c =
    let p = c.args.program.now in
    let made = rw c.in-Some-Ended.field-0-is at c.in-Some-Ended.ensures in
    sym (inked_ended p.table.now p.layout p.local c.args.most c.loop-i._i (run_of c.loop-i.state) (run_of c.step.new.self) c.loop-i.bounds c.loop-i-test.true made)
    ∙ c.loop-i.invariant
