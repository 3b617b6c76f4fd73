use Rattle.std.proofs.Common.{◌≡◌, ◌+◌, ◌++◌, length}
use Rattle.shape_normalize.specs.RoundOne.{variation_sequence_spans, variants}
use Rattle.shape_normalize.proofs.ot_shape_normalize.round_one.variation_sequences.push_variation_sequences.Given as goal

-- with what is left of the sequence come the spans that the whole sequence has
abbrev pub invariant-parts : goal.invariant-parts
invariant-parts g l =
    let unicode = g.U.hb_unicode_funcs_t.unicode in
    let face = g.F.hb_font_t.face l.face in
    record {
      spans : l.spans.items ++ variation_sequence_spans face l.place (variants unicode l.rest)
          ≡ l.initial.spans.items ++ variation_sequence_spans face l.start (variants unicode l.sequence);
      whole : l.place + length l.rest ≡ l.start + length l.sequence;
    }

abbrev pub decreases-parts : goal.decreases-parts
decreases-parts g l = length l.rest
