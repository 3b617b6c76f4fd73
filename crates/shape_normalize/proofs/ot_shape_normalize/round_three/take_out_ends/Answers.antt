use Rattle.std.proofs.Common.{◌≡◌, ◌<◌, List, length, get_or, set, refl, ap, sym, ◌∙◌, arith}
use Rattle.shape_items.specs.Buffer.{Buffer}
use Rattle.shape_items.specs.Items.{Item}
use Rattle.shape_normalize.proofs.RoundThree.TakenOutLemmas.{nothing_taken_out, AreKept-first, AreKept-taken, AreKept-put}
use Rattle.shape_normalize.proofs.ot_shape_normalize.round_three.take_out_ends.Goals as goal
use Rattle.shape_normalize.proofs.ot_shape_normalize.round_three.take_out_ends.Goals.{then-ends_next, else-ends_next}

pub returns-in_default : goal.returns-in_default
returns-in_default c = c.clear_positions.ensures ∙ nothing_taken_out c.args.spans.now c.args.buffer.now c.in_default.ensures.value

pub loop-place-init : goal.loop-place-init
loop-place-init c = record {
  walked = AreKept-first c.args.spans.now c.args.buffer.now.items c.in-Some.field-0.now c.saturating_sub-kept.result
      c.in-Some.ensures.value c.saturating_sub-kept.ensures;
  rest = refl;
}

pub loop-place-preserved : goal.loop-place-preserved
loop-place-preserved c =
    let l = c.loop-place in
    let spans = c.args.spans.now in
    let old = c.args.buffer.now in
    let lt : l.place < length l.buffer.items = omega (arith, c.loop-place-test.true, c.len-place-end.ensures.items, l.invariant.walked.size) in
    elim c.if-ends_next.branch [
      | then-ends_next w ↦
          rw (w.buffer-is, w.kept-is, w.taken-is) (record {
            walked = AreKept-taken spans old.items l.place l.buffer.items l.kept l.taken lt l.invariant.walked
                (sym c.ends_next.ensures ∙ w.if-ends_next.true);
            rest = l.invariant.rest;
          })
      | else-ends_next w ↦
          let x = w.index-infos-place.result in
          let is_x : x ≡ get_or l.buffer.items l.place x = w.index-infos-place.is ∙ ap (λ xs. get_or xs l.place x) w.infos.ensures in
          let put : c.if-ends_next.buffer ≡ record l.buffer { items = set l.buffer.items l.kept x } = w.buffer-is ∙ w.set_info.ensures in
          let items_are : c.if-ends_next.buffer.items ≡ set l.buffer.items l.kept x = ap (λ (b : Buffer). b.items) put in
          record {
            walked = rw (items_are, w.kept-is, w.taken-is)
                (AreKept-put spans old.items l.place l.buffer.items l.kept l.taken lt l.invariant.walked x is_x
                (sym c.ends_next.ensures ∙ w.if-ends_next.false));
            rest =
                put ∙ ap (λ (b : Buffer). record b { items = set l.buffer.items l.kept x }) l.invariant.rest
                ∙ sym (ap (λ (xs : List Item). record old { items = xs }) items_are);
          }
    ]
