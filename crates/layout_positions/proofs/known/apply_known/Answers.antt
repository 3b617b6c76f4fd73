use Rattle.std.proofs.Common.{◌≡◌, ◌+◌, None, length, sym, ap, subst, ◌∙◌}
use Rattle.layout_matching.proofs.LoopLemmas.{times_step}
use Rattle.layout_matching.specs.Skipping.{nth}
use Rattle.layout_positions.specs.Known.{AreOut}
use Rattle.layout_positions.specs.Subtables.{Trial, trial_step}
use Rattle.layout_positions.proofs.KnownLemmas.{glyph_tried}
use Rattle.layout_positions.proofs.SubtableLemmas.{length_tried}
use Rattle.layout_positions.proofs.known.apply_known.Goals as goal

pub loop-k-preserved : goal.loop-k-preserved
loop-k-preserved c =
    let l = c.args.lookup.now in
    let i = c.args.i in
    let k = c.loop-k.k in
    let before = c.loop-k.tried.placed in
    let after = c.try_known-tried.result.placed in
    let first : Trial = record { buffer = c.args.buffer.now; next = None; seen = c.args.carried.seen; left = c.args.carried.left; subtable = 0 } in
    let here : Trial = record { buffer = c.loop-k.buffer; next = before.next; seen = before.carried.seen; left = before.carried.left; subtable = k } in
    let there : Trial = record {
      buffer = c.try_known-tried.new.buffer;
      next = after.next;
      seen = after.carried.seen;
      left = after.carried.left;
      subtable = k + 1;
    } in
    let made : there ≡ trial_step l i here = c.try_known-tried.ensures.step in
    record {
      made = times_step (trial_step l i) k first here there c.loop-k.invariant.made made;
      len = ap (λ (s : Trial). length s.buffer.items) made ∙ length_tried l i here ∙ c.loop-k.invariant.len;
      glyph = ap (λ (s : Trial). (nth s.buffer.items i).glyph_id) made ∙ glyph_tried l i here ∙ c.loop-k.invariant.glyph;
      out = subst (λ g. AreOut l g c.try_known-tried.result.out) c.loop-k.invariant.glyph c.try_known-tried.ensures.out;
      flagged = c.try_known-tried.ensures.flagged;
    }

pub try_known-tried-requires-clause-out : goal.try_known-tried-requires-clause-out
try_known-tried-requires-clause-out c =
    subst (λ g. AreOut c.args.lookup.now g c.loop-k.tried.out) (sym c.loop-k.invariant.glyph) c.loop-k.invariant.out
