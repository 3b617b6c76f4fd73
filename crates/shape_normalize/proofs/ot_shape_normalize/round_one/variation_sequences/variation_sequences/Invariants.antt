use Rattle.std.proofs.Common.{◌≡◌, ◌+◌, ◌++◌, length}
use Rattle.shape_normalize.specs.RoundOne.{variation_sequences_from, sequences}
use Rattle.shape_normalize.proofs.ot_shape_normalize.round_one.variation_sequences.variation_sequences.Given as goal

-- with what is left of the list come the spans that the whole list has
abbrev pub invariant-sequences : goal.invariant-sequences
invariant-sequences g l =
    let unicode = g.U.hb_unicode_funcs_t.unicode in
    let face = g.F.hb_font_t.face l.face in
    record {
      spans : l.spans.items ++ variation_sequences_from unicode face l.place (sequences l.rest) ≡ variation_sequences_from unicode face 0 (sequences l.infos);
      whole : l.place + length l.rest ≡ length l.infos;
    }

abbrev pub decreases-sequences : goal.decreases-sequences
decreases-sequences g l = length l.rest
