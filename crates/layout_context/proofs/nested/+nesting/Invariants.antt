use Rattle.std.proofs.Common.{◌≡◌, ◌+◌, ◌*◌}
use Rattle.layout_matching.specs.Loops.{times}
use Rattle.layout_context.specs.Nested.{Nest, record_step, nested_applied}
use Rattle.layout_context.proofs.nested.+nesting.Given as goal

-- from a lookup to its rule, its records, each of them and its lookup, and from there to a level below
abbrev pub decreases-apply_nested : goal.decreases-apply_nested
decreases-apply_nested l = 10 * l.level

abbrev pub decreases-apply_level : goal.decreases-apply_level
decreases-apply_level l = 10 * l.level + 9

abbrev pub decreases-apply_context : goal.decreases-apply_context
decreases-apply_context l = 10 * l.level + 8

abbrev pub decreases-apply_rule : goal.decreases-apply_rule
decreases-apply_rule l = 10 * l.level + 7

abbrev pub decreases-apply_records : goal.decreases-apply_records
decreases-apply_records l = 10 * l.level + 6

abbrev pub decreases-apply_record : goal.decreases-apply_record
decreases-apply_record l = 10 * l.level + 5

abbrev pub decreases-apply_target : goal.decreases-apply_target
decreases-apply_target l = 10 * l.level + 4

abbrev pub decreases-apply_named : goal.decreases-apply_named
decreases-apply_named l = 10 * l.level + 3

abbrev pub decreases-apply_sought : goal.decreases-apply_sought
decreases-apply_sought l = 10 * l.level + 2

abbrev pub decreases-apply_found : goal.decreases-apply_found
decreases-apply_found l = 10 * l.level + 1

abbrev pub invariant-apply_records-loop-i : goal.invariant-apply_records-loop-i
invariant-apply_records-loop-i l =
    let here : Nest = record { buffer = l.buffer; places = l.places.items; progress = l.progress } in
    let first : Nest = record { buffer = l.fn.buffer; places = l.fn.places.items; progress = l.fn.progress } in
    record {
      made : here ≡ times (record_step (nested_applied l.level) l.named) l._i first;
      r : l.progress.r ≡ l._i;
    }
