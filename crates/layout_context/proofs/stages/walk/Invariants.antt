use Rattle.std.proofs.Common.{◌≡◌, ◌≤◌, ◌-◌, true, false}
use Rattle.layout_matching.specs.Loops.{times}
use Rattle.layout_substitution.specs.Edits.{asks_for_concat}
use Rattle.layout_context.specs.Nested.{nested_applied}
use Rattle.layout_context.specs.Stages.{Walk, first_walk, lookup_step}
use Rattle.layout_context.proofs.stages.walk.Given as goal

abbrev pub invariant-loop-done : goal.invariant-loop-done
invariant-loop-done l =
    let here : Walk = record { buffer = l.buffer; spot = l.spot } in
    let first : Walk = first_walk (record { buffer = l.fn.buffer; spot = l.fn.spot }) in record {
      within : l.done ≤ l.count;
      made : here ≡ times (lookup_step (nested_applied l.levels l.named.lookup) l.named.lookup) l.done first;
      unasked : l.is_kept ≡ true → asks_for_concat l.fn.buffer ≡ false;
      kept : l.is_kept ≡ true → l.buffer ≡ l.fn.buffer;
    }

abbrev pub decreases-loop-done : goal.decreases-loop-done
decreases-loop-done l = l.count - l.done
