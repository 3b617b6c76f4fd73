use Rattle.std.proofs.Common.{◌≡◌, ◌+◌, None, Some, length, sym, refl, ap, ◌∙◌}
use Rattle.std.proofs.lemmas.Option.{IfSome_then}
use Rattle.layout_matching.proofs.LoopLemmas.{times_step}
use Rattle.layout_tables.specs.Lookups.{subtable_count_of}
use Rattle.layout_positions.specs.Lookups.{stop_after}
use Rattle.layout_matching.specs.Loops.{times}
use Rattle.layout_positions.specs.Subtables.{Trial, trial_step, placed_by}
use Rattle.layout_positions.proofs.StopLemmas.{stop_tried}
use Rattle.layout_positions.proofs.SubtableLemmas.{length_tried, tried_until}
use Rattle.layout_positions.proofs.subtables.apply_lookup.Goals as goal

pub loop-k-preserved : goal.loop-k-preserved
loop-k-preserved c =
    let l = c.args.indexed.now.lookup.now in
    let i = c.args.i in
    let k = c.loop-k.k in
    let first : Trial = record { buffer = c.args.buffer.now; next = None; seen = c.args.carried.now.seen; left = c.args.carried.now.left; subtable = 0 } in
    let here : Trial = record { buffer = c.loop-k.buffer; next = None; seen = c.loop-k.carried.seen; left = c.loop-k.carried.left; subtable = k } in
    let there : Trial = record {
      buffer = c.try_subtable.new.buffer;
      next = None;
      seen = c.try_subtable.new.carried.seen;
      left = c.try_subtable.new.carried.left;
      subtable = k + 1;
    } in
    let made : there ≡ trial_step l i here =
    ap (λ o. record { buffer = c.try_subtable.new.buffer; next = o; seen = c.try_subtable.new.carried.seen; left = c.try_subtable.new.carried.left; subtable = k + 1 }) (sym c.in-None.is)
    ∙ c.try_subtable.ensures.step in
    record {
      made = times_step (trial_step l i) k first here there c.loop-k.invariant.made made;
      len = ap (λ (s : Trial). length s.buffer.items) made ∙ length_tried l i here ∙ c.loop-k.invariant.len;
      known = IfSome_then c.try_subtable.new.ahead c.try_subtable.ensures.known
          (λ stop is. is ∙ sym (ap (λ (s : Trial). stop_after l s.buffer.items i) made ∙ stop_tried l i here));
    }

pub returns-in-Some-clause-made : goal.returns-in-Some-clause-made
returns-in-Some-clause-made c =
    let l = c.args.indexed.now.lookup.now in
    let i = c.args.i in
    let k = c.loop-k.k in
    let first : Trial = record { buffer = c.args.buffer.now; next = None; seen = c.args.carried.now.seen; left = c.args.carried.now.left; subtable = 0 } in
    let here : Trial = record { buffer = c.loop-k.buffer; next = None; seen = c.loop-k.carried.seen; left = c.loop-k.carried.left; subtable = k } in
    let there : Trial = record {
      buffer = c.try_subtable.new.buffer;
      next = Some c.in-Some.next;
      seen = c.try_subtable.new.carried.seen;
      left = c.try_subtable.new.carried.left;
      subtable = k + 1;
    } in
    let made : there ≡ trial_step l i here =
    ap (λ o. record { buffer = c.try_subtable.new.buffer; next = o; seen = c.try_subtable.new.carried.seen; left = c.try_subtable.new.carried.left; subtable = k + 1 }) (sym c.in-Some.is)
    ∙ c.try_subtable.ensures.step in
    tried_until l i c.subtable_count-k-end.result k first here there c.loop-k-test.true c.loop-k.invariant.made made refl
    ∙ ap (λ n. placed_by (times (trial_step l i) n first)) c.subtable_count-k-end.ensures.value

pub returns-in-Some-clause-len : goal.returns-in-Some-clause-len
returns-in-Some-clause-len c =
    let l = c.args.indexed.now.lookup.now in
    let i = c.args.i in
    let k = c.loop-k.k in
    let here : Trial = record { buffer = c.loop-k.buffer; next = None; seen = c.loop-k.carried.seen; left = c.loop-k.carried.left; subtable = k } in
    ap (λ (s : Trial). length s.buffer.items) c.try_subtable.ensures.step ∙ length_tried l i here ∙ c.loop-k.invariant.len
