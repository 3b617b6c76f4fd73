use Rattle.std.proofs.Common.{◌≡◌, ◌<◌, length}
use Rattle.shape_plan.specs.Rules.{rules_of}
use Rattle.shape_normalize.proofs.RoundThree.RoundThreeWalkLemmas.{IsRecomposedTo}
use Rattle.shape_normalize.proofs.ot_shape_normalize.round_three.compose_in_place.Given as goal

abbrev pub invariant-loop-place : goal.invariant-loop-place
invariant-loop-place g l =
    let shaper = g.T.Shaper.hb_ot_shaper_t in
    let rules = rules_of g.T.Unicode.hb_unicode_funcs_t.unicode shaper.constants shaper.hooks g.T.Face.hb_font_t.face l.plan l.face in
    record {
      within : l.starter < length l.buffer.items;
      size : length l.buffer.items ≡ length l.fn.buffer.items;
      walked : IsRecomposedTo rules l.fn.buffer.items l.fn.buffer.scratch_flags l.place l.buffer.items l.spans.items l.buffer.scratch_flags l.starter l.from l.greatest;
      rest : l.buffer ≡ record l.fn.buffer { items = l.buffer.items; scratch_flags = l.buffer.scratch_flags };
    }
