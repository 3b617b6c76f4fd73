use Rattle.std.proofs.Common.{◌∙◌}
use Rattle.shape_normalize.proofs.RoundOne.SelectorLemmas.{found_in_order}
use Rattle.shape_normalize.proofs.ot_shape_normalize.round_one.variation_sequences.merge_variation_sequences.Goals as goal

pub merge_spans-requires : goal.merge_spans-requires
merge_spans-requires g c =
    record {
      in_order = found_in_order g.U.hb_unicode_funcs_t.unicode (g.F.hb_font_t.face c.args.face.now) c.args.buffer.now.items
          c.infos.result.now c.deref.result.now c.infos.ensures (c.deref.ensures.value ∙ c.in_ok-spans.ensures);
    }
