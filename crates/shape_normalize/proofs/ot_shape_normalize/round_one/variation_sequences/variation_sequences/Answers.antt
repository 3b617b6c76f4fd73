use Rattle.std.proofs.Common.{rules, ◌≡◌, true, false, ◌+◌, ◌∷◌, [], ◌++◌, map, length, arith}
use Rattle.shape_normalize.specs.RoundOne.{variation_sequences_from, variation_sequence_spans, variants, is_selector_sequence, sequences}
use Rattle.shape_normalize.proofs.RoundOne.AloneLemmas.{spans_passed, spans_with, spans_without}
use Rattle.shape_normalize.proofs.ot_shape_normalize.round_one.variation_sequences.variation_sequences.Goals as goal
use Rattle.shape_normalize.proofs.ot_shape_normalize.round_one.variation_sequences.variation_sequences.Goals.{then-is_selector_sequence+in_ok-push_variation_sequences, else-is_selector_sequence}

pub sequences-preserved : goal.sequences-preserved
sequences-preserved g c =
    let unicode = g.U.hb_unicode_funcs_t.unicode in
    let face = g.F.hb_font_t.face c.args.face.now in
    let items = c.sequences.rest.now in
    let sequence = c.in-Some.sequence.now in
    let after = c.in-Some.after.now in
    let first : sequences items ≡ sequence ∷ sequences after = c.in-Some.ensures.first in
    let alone = c.split_at.result.0.now in
    let rest = c.split_at.result.1.now in
    let place = c.sequences.place + length sequence in
    let done = c.if-is_selector_sequence.spans.items in
    let here : done ++ variation_sequences_from unicode face place (sequences after)
    ≡ variation_sequences_from unicode face 0 (sequences c.args.infos.now) =
    elim c.if-is_selector_sequence.branch [
      | then-is_selector_sequence+in_ok-push_variation_sequences w ↦
          let selects : is_selector_sequence unicode sequence ≡ true = search rules in
          let put : done ≡ c.sequences.spans.items ++ variation_sequence_spans face c.sequences.place (variants unicode sequence) =
          search rules in
          spans_with unicode face c.sequences.place items sequence after c.sequences.spans.items done _ first selects put
          c.sequences.invariant.spans
      | else-is_selector_sequence w ↦
          let none : is_selector_sequence unicode sequence ≡ false = search rules in
          let put : done ≡ c.sequences.spans.items = search rules in
          spans_without unicode face c.sequences.place items sequence after c.sequences.spans.items done _ first none put
          c.sequences.invariant.spans
    ] in
    let parts : sequences after ≡ map (λ item. item ∷ []) alone ++ sequences rest =
    rw (c.split_at.ensures.front, c.split_at.ensures.back) c.count_alone.ensures.alone in
    record {
      spans = spans_passed unicode face place _ after alone rest done _ parts (omega arith) here;
      whole = omega (
        arith,
        c.sequences.invariant.whole,
        c.in-Some.ensures.whole,
        c.split_at.ensures.front_len,
        c.split_at.ensures.back_len,
        c.count_alone.ensures.within,
      );
    }
