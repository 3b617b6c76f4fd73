use Rattle.std.proofs.Common.{◌≡◌, ◌+◌, ◌*◌, length}
use Rattle.layout_matching.specs.Loops.{times}
use Rattle.layout_positions.specs.Nested.{Nest, record_step, nested_placed}
use Rattle.layout_positions.proofs.nested.+nesting.Given as goal

-- from a lookup to its rule, its records and each of them, and from there to a lookup one level below
abbrev pub decreases-apply_nested : goal.decreases-apply_nested
decreases-apply_nested l = 9 * l.level

abbrev pub decreases-apply_level : goal.decreases-apply_level
decreases-apply_level l = 9 * l.level + 8

abbrev pub decreases-apply_first : goal.decreases-apply_first
decreases-apply_first l = 9 * l.level + 7

abbrev pub decreases-apply_rule : goal.decreases-apply_rule
decreases-apply_rule l = 9 * l.level + 6

abbrev pub decreases-apply_records : goal.decreases-apply_records
decreases-apply_records l = 9 * l.level + 5

abbrev pub decreases-apply_record : goal.decreases-apply_record
decreases-apply_record l = 9 * l.level + 4

abbrev pub decreases-apply_named : goal.decreases-apply_named
decreases-apply_named l = 9 * l.level + 3

abbrev pub decreases-apply_sought : goal.decreases-apply_sought
decreases-apply_sought l = 9 * l.level + 2

abbrev pub decreases-apply_found : goal.decreases-apply_found
decreases-apply_found l = 9 * l.level + 1

-- so many records are done
abbrev pub invariant-apply_records-loop-r : goal.invariant-apply_records-loop-r
invariant-apply_records-loop-r l =
    let here : Nest = record { buffer = l.buffer; seen = l.carried.seen; left = l.carried.left; r = l.r } in
    let first : Nest = record { buffer = l.fn.buffer; seen = l.fn.carried.seen; left = l.fn.carried.left; r = 0 } in
    record {
      made : here ≡ times (record_step (nested_placed l.level) l.site.lookup l.site.at l.site.rule) l.r first;
      len : length l.buffer.items ≡ length l.fn.buffer.items;
    }
